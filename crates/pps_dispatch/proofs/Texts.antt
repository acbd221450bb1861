-- Texts that are made or written part after part.
use Rattle.std.proofs.Common.{◌≡◌, ◌+◌, ◌<◌, ◌≤◌, ℕ, zero, suc, length, drop, get_or, take, map, Bor, false, List, [], ◌∷◌, ◌++◌, Option, Some, None, append_assoc, append-nil, add-one, refl, sym, ap, subst, ◌∙◌, arith}
use Rattle.std.specs.Prelude.{codes, decimal}
use Rattle.std.proofs.lemmas.Grind.{flat_map-append}
use Rattle.std.proofs.lemmas.List.{drop_all, length-map, get_or-map, take_more, flat_map_more}
use Rattle.std.proofs.Math.Seq.{take-append_seam, take-length}
use Rattle.std.specs.Io.KnownBytes.{Appends, Keeps}
use Rattle.pps_types.specs.Runs.{Answered}
use Rattle.pps_types.specs.Writing.{SendsPart, Holds}
use Rattle.pps_types.proofs.KnownBytes.{Appends-then, Appends-same}
use Rattle.pps_types.proofs.Writing.{holds-part, holds-sent, part-more}
use Rattle.script_text.specs.Answer.{answer_line}
use Rattle.script_text.specs.Script.{answers_of}
use Rattle.pps_lock.specs.declared.book.Receipt.{Receipt}
use Rattle.pps_lock.specs.Trace.{Piece}
use Rattle.pps_dispatch.specs.History.{joined}
use Rattle.pps_dispatch.specs.Sessions.{Conversation}
use Rattle.pps_dispatch.specs.Named.{entry_named}
use Rattle.pps_dispatch.specs.Printed.{session_line, session_text, sessions_text, connections_of, history_text}

-- ---- answers

-- one more answer is printed; `whole` is what is printed in the end
pub answers-next : (whole out new : List ℕ) (xs : List Answered) (k : ℕ) (x : Answered) → out ++ answers_of false (drop k xs) ≡ whole
    → drop k xs ≡ x ∷ drop (suc k) xs → new ≡ out ++ answer_line x.event.conn x.reply → new ++ answers_of false (drop (k + 1) xs) ≡ whole
answers-next whole out new xs k x so_far next is =
    let line = answer_line x.event.conn x.reply in
    let others = answers_of false (drop (suc k) xs) in
    ap (λ n. new ++ answers_of false (drop n xs)) (add-one k)
    ∙ ap (λ n. n ++ others) is
    ∙ append_assoc out line others
    ∙ ap (λ l. out ++ (l ++ others)) (sym (append-nil line))
    ∙ ap (λ ys. out ++ answers_of false ys) (sym next)
    ∙ so_far

-- all are
pub answers-end : (ps : List Piece) (names : List Receipt) (whole out : List ℕ) (xs : List Answered) (k : ℕ) → map (entry_named ps) names ≡ map Some xs
    → length names ≤ k → out ++ answers_of false (drop k xs) ≡ whole → out ≡ whole
answers-end ps names whole out xs k is end so_far =
    let long : length xs ≤ k = omega (arith, end, ap length is, length-map names (entry_named ps), length-map xs Some) in
    sym (append-nil out) ∙ ap (λ ys. out ++ answers_of false ys) (sym (drop_all k xs long)) ∙ so_far

-- ---- what is written

-- the next part is written
pub holds-next : (a b c : Option (List ℕ)) (whole text others next : List ℕ) → Holds a b others whole → others ≡ text ++ next → Appends b c text → Holds a c next whole
holds-next a b c whole text others next p is written = record {
  sent = p.sent ++ text;
  written = Appends-then a b c p.sent text p.written written;
  parts = p.parts ∙ ap (λ t. p.sent ++ t) is ∙ sym (append_assoc p.sent text next);
}

-- or a part of it
pub part-of_next : (a b c : Option (List ℕ)) (whole text others next : List ℕ) → Holds a b others whole → others ≡ text ++ next → SendsPart b c text → SendsPart a c whole
part-of_next a b c whole text others next p is sends =
    subst (λ t. SendsPart a c t) (append-nil whole)
    (holds-part a b c others whole [] p
    (subst (λ t. SendsPart b c t) (sym (append-nil others)) (subst (λ t. SendsPart b c t) (sym is) (part-more b c text next sends))))

-- nothing more is written
pub part-so_far : (a b : Option (List ℕ)) (whole others : List ℕ) → Holds a b others whole → SendsPart a b whole
part-so_far a b whole others p = record {
  sent = length p.sent;
  written = Appends-same a b _ _ (sym (ap (take (length p.sent)) p.parts ∙ take-append_seam p.sent others)) p.written;
}

keeps-appends : (a b : Option (List ℕ)) → Keeps a b → Appends a b []
keeps-appends None b keeps = tt
keeps-appends (Some xs) None keeps = absurd keeps
keeps-appends (Some xs) (Some ys) keeps = keeps ∙ sym (append-nil xs)

-- all is written, and what the writer kept back was passed on
pub all-sent : (a b c : Option (List ℕ)) (whole others : List ℕ) → Holds a b others whole → others ≡ [] → Keeps b c → Appends a c whole
all-sent a b c whole others p none keeps =
    holds-sent a b c others whole p (subst (λ t. Appends b c t) (sym none) (keeps-appends b c keeps))

-- all of some bytes are a part of them
pub whole-part : (a b : Option (List ℕ)) (whole : List ℕ) → Appends a b whole → SendsPart a b whole
whole-part a b whole written = record { sent = length whole; written = Appends-same a b _ _ (sym (take-length whole)) written }

-- ---- sessions

-- the text of the next session, and of those behind it
pub sessions-next : (files : List (List ℕ)) (sessions : List Conversation) (history : List Answered) (k : ℕ) (file : List ℕ) (session : Conversation)
    → k < length files → length files ≡ length sessions → file ≡ get_or files k file → session ≡ get_or sessions k session
    → sessions_text (drop k files) (drop k (connections_of sessions)) history
    ≡ session_text session.connection file history ++ sessions_text (drop (k + 1) files) (drop (k + 1) (connections_of sessions)) history
sessions-next files sessions history k file session lt same at own =
    let n : k + 1 ≡ suc k = add-one k in
    rw n (by files sessions k lt same at own)
  where
    by : (fs : List (List ℕ)) (ss : List Conversation) (k : ℕ) → k < length fs → length fs ≡ length ss → file ≡ get_or fs k file → session ≡ get_or ss k session
        → sessions_text (drop k fs) (drop k (connections_of ss)) history
        ≡ session_text session.connection file history ++ sessions_text (drop (suc k) fs) (drop (suc k) (connections_of ss)) history
    by [] ss k lt same at own = absurd (omega (arith, lt))
    by (f ∷ fs) [] k lt same at own = absurd (omega (arith, same))
    by (f ∷ fs) (s ∷ ss) zero lt same at own =
        ap (λ (t : Conversation). session_text t.connection f history ++ sessions_text fs (connections_of ss) history) (sym own)
        ∙ ap (λ t. session_text session.connection t history ++ sessions_text fs (connections_of ss) history) (sym at)
    by (f ∷ fs) (s ∷ ss) (suc k) lt same at own = by fs ss k (omega (arith, lt)) (omega (arith, same)) at own

-- no more sessions
pub sessions-end : (files : List (List ℕ)) (connections : List ℕ) (history : List Answered) (k : ℕ) → length files ≤ k
    → sessions_text (drop k files) connections history ≡ []
sessions-end files connections history k end = ap (λ fs. sessions_text fs connections history) (drop_all k files end)

-- ---- the history

-- the connection of one more entry
pub history-next : (entries : List Answered) (i : ℕ) (x : Answered) (start old new line : List ℕ) → i < length entries → x ≡ get_or entries i x
    → old ≡ start ++ history_text (take i entries) → new ≡ old ++ line → line ≡ decimal x.event.conn ++ codes "\n" → new ≡ start ++ history_text (take (i + 1) entries)
history-next entries i x start old new line lt at so_far is one =
    is
    ∙ ap (λ l. old ++ l) one
    ∙ ap (λ o. o ++ (decimal x.event.conn ++ codes "\n")) so_far
    ∙ flat_map_more (λ (y : Answered). decimal y.event.conn ++ codes "\n") start (take i entries) x
    ∙ ap (λ (es : List Answered). start ++ history_text es) (ap (λ (y : Answered). take i entries ++ y ∷ []) at ∙ sym (take_more entries i x lt))

joined-append : (ps qs : List Piece) → joined (ps ++ qs) ≡ joined ps ++ joined qs
joined-append [] qs = refl
joined-append (p ∷ ps) qs = ap (λ (l : List Answered). p.entries ++ l) (joined-append ps qs) ∙ sym (append_assoc p.entries (joined ps) (joined qs))

-- those of one more segment
pub history-segment : (ps : List Piece) (i : ℕ) (p : Piece) (entries : List Answered) (old new : List ℕ) → i < length ps → p ≡ get_or ps i p
    → old ≡ history_text (joined (take i ps)) → new ≡ old ++ history_text entries → entries ≡ p.entries → new ≡ history_text (joined (take (i + 1) ps))
history-segment ps i p entries old new lt at so_far is same =
    is
    ∙ ap (λ o. o ++ history_text entries) so_far
    ∙ ap (λ (es : List Answered). history_text (joined (take i ps)) ++ history_text es) (same ∙ sym (append-nil p.entries))
    ∙ sym (flat_map-append (λ (y : Answered). decimal y.event.conn ++ codes "\n") (joined (take i ps)) (joined (p ∷ [])))
    ∙ ap history_text (sym (joined-append (take i ps) (p ∷ [])))
    ∙ ap (λ (qs : List Piece). history_text (joined qs)) (ap (λ (q : Piece). take i ps ++ q ∷ []) at ∙ sym (take_more ps i p lt))

-- ---- the line before a session's answers

-- as its parts are joined from the last one on
pub line-parts : (number connection : ℕ) (file : List ℕ) → number ≡ connection
    → codes "session " ++ (decimal number ++ (codes " " ++ (file ++ codes "\n"))) ≡ session_line connection file
line-parts number connection file same =
    ap (λ n. codes "session " ++ (decimal n ++ (codes " " ++ (file ++ codes "\n")))) same
    ∙ ap (λ (t : List ℕ). codes "session " ++ t)
    (sym (append_assoc (decimal connection) (codes " ") (file ++ codes "\n")) ∙ sym (append_assoc (decimal connection ++ codes " ") file (codes "\n")))

-- ---- one session's text, where its file and its session stand at a place

pub text-next : (files : List (Bor (List ℕ))) (sessions : List Conversation) (history : List Answered) (k : ℕ) (d : Bor (List ℕ)) (session : Conversation)
    → k < length files → length files ≡ length sessions → session ≡ get_or sessions k session
    → sessions_text (drop k (map (λ file. file.now) files)) (drop k (connections_of sessions)) history
    ≡ session_text session.connection (get_or files k d).now history
    ++ sessions_text (drop (k + 1) (map (λ file. file.now) files)) (drop (k + 1) (connections_of sessions)) history
text-next files sessions history k d session lt same own =
    let long : length (map (λ (file : Bor (List ℕ)). file.now) files) ≡ length files = length-map files (λ (file : Bor (List ℕ)). file.now) in
    sessions-next (map (λ (file : Bor (List ℕ)). file.now) files) sessions history k (get_or files k d).now session
    (omega (arith, lt, long)) (long ∙ same)
    (sym (get_or-map (λ (file : Bor (List ℕ)). file.now) files k d (get_or files k d).now lt)) own
