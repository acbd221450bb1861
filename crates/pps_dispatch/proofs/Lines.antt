-- The lines of a session's script, read from the front.
use Rattle.std.proofs.Common.{◌≡◌, ◌≢◌, ◌+◌, ℕ, length, min, Bool, true, false, List, [], ◌∷◌, ◌++◌, Option, Some, None, append_assoc, append-nil, length-append, refl, sym, ap, subst, ◌∙◌, arith}
use Rattle.std.specs.Prelude.{◌&&◌, ◌==◌, nat_le}
use Rattle.std.specs.List.{list_all}
use Rattle.std.proofs.lemmas.Bool.{eq-eqb, eqb-true, le-leb, false≢true}
use Rattle.std.proofs.lemmas.List.{nil_from_length}
use Rattle.std.proofs.lemmas.List.Folds.{list_all-append}
use Rattle.pps_types.specs.declared.event.Event.{Event}
use Rattle.pps_types.specs.Bytes.{split_at_first, pieces}
use Rattle.pps_types.specs.Device.{last_count}
use Rattle.pps_types.specs.Frame.{event_body, longest_body}
use Rattle.pps_types.specs.Text.{lines_of, without_empty_end}
use Rattle.pps_types.proofs.Cuts.{pieces-first, pieces-one}
use Rattle.script_text.specs.ScriptLines.{line_of}
use Rattle.script_text.specs.declared.script_line.ScriptLine.{ScriptLine}
use Rattle.script_text.specs.declared.script_line.ScriptLine.TheVariants.{Nothing, Command}
use Rattle.script_text.specs.Script.{script, with_line}
use Rattle.script_text.proofs.Pieces.{pieces-some, last-lines}
use Rattle.script_text.proofs.Scripts.{joined, script-good}
use Rattle.pps_dispatch.specs.Sessions.{Conversation, are_of, unanswered}
use Rattle.pps_dispatch.specs.declared.session_fault.SessionFault.{SessionFault}
use Rattle.pps_dispatch.specs.declared.session_fault.SessionFault.TheVariants.{BadLine, OutOfMemory}
use Rattle.pps_dispatch.specs.Scripts.{Asks, IsSessionOf, is_own, TellsFirstBad}
use Rattle.pps_dispatch.specs.Reading.{AddsLine, FailsLine}

-- ---- some lines

-- all of them are the session's, and these are the events that they ask for
pub record AreRead (connection : ℕ) (lines : List (List ℕ)) (events : List Event) : Type 0 where
  pub said : script false lines ≡ record { events = events; bad = None }
  pub good : list_all (λ l. is_own connection (line_of l)) lines ≡ true
  pub own : are_of connection events ≡ true

none-read : (connection : ℕ) (events : List Event) → events ≡ [] → AreRead connection [] events
none-read connection events none = record {
  said = ap (λ (es : List Event). record { events = es; bad = None }) (sym none);
  good = refl;
  own = ap (are_of connection) none;
}

-- one more
line-read : (connection : ℕ) (lines : List (List ℕ)) (line : List ℕ) (old new : List Event) → AreRead connection lines old → AddsLine connection (line_of line) old new
    → AreRead connection (lines ++ line ∷ []) new
line-read connection lines line old new read adds = by (line_of line) refl adds
  where
    whole : (said : Option ScriptLine) → line_of line ≡ said
        → script false (lines ++ line ∷ []) ≡ joined record { events = old; bad = None } (length lines) (with_line said record { events = []; bad = None })
    whole said is =
        script-good false lines (line ∷ []) (ap (λ s. s.bad) read.said)
        ∙ ap (λ s. joined s (length lines) (script false (line ∷ []))) read.said
        ∙ ap (λ s. joined record { events = old; bad = None } (length lines) (with_line s record { events = []; bad = None })) is

    all-good : (said : Option ScriptLine) → line_of line ≡ said → is_own connection said ≡ true
        → list_all (λ l. is_own connection (line_of l)) (lines ++ line ∷ []) ≡ true
    all-good said is own =
        list_all-append (λ l. is_own connection (line_of l)) lines (line ∷ [])
        ∙ ap (λ b. b && (is_own connection (line_of line) && true)) read.good
        ∙ ap (λ s. true && (is_own connection s && true)) is
        ∙ ap (λ b. true && (b && true)) own

    by : (said : Option ScriptLine) → line_of line ≡ said → AddsLine connection said old new → AreRead connection (lines ++ line ∷ []) new
    by None is adds = absurd adds
    by (Some Nothing) is same = record {
      said = whole (Some Nothing) is ∙ ap (λ es. record { events = es; bad = None }) (append-nil old ∙ sym same);
      good = all-good (Some Nothing) is refl;
      own = ap (are_of connection) same ∙ read.own;
    }
    by (Some (Command e)) is (conn, short, more) =
        let of : (e.conn == connection) ≡ true = eq-eqb e.conn connection conn in
        let fits : nat_le (length (event_body e)) longest_body ≡ true = le-leb (length (event_body e)) longest_body short in
        record {
          said = whole (Some (Command e)) is ∙ ap (λ es. record { events = es; bad = None }) (sym more);
          good = all-good (Some (Command e)) is (ap (λ b. b && nat_le (length (event_body e)) longest_body) of ∙ fits);
          own = ap (are_of connection) more
              ∙ list_all-append (λ e. e.conn == connection) old (e ∷ [])
              ∙ ap (λ b. b && ((e.conn == connection) && true)) read.own
              ∙ ap (λ b. true && (b && true)) of;
        }

-- ---- a text

-- the first lines of a text are read, the rest is not, and the next line has this number
pub record ReadSoFar (connection : ℕ) (text rest : List ℕ) (events : List Event) (number : ℕ) : Type 0 where
  pub lines : List (List ℕ)
  pub parts : pieces 10 text ≡ lines ++ pieces 10 rest
  pub read : AreRead connection lines events
  pub counted : number ≡ min (length lines + 1) last_count

pub none-so_far : (connection : ℕ) (text : List ℕ) (events : List Event) → events ≡ [] → ReadSoFar connection text text events 1
none-so_far connection text events none = record {
  lines = [];
  parts = refl;
  read = none-read connection events none;
  counted = omega arith;
}

module _ (connection : ℕ) (text rest line behind : List ℕ) (old : List Event) (number : ℕ) (cut : Some (line, behind) ≡ split_at_first 10 rest)
    (so_far : ReadSoFar connection text rest old number) where
  -- the lines so far, this one, and the others
  these : pieces 10 text ≡ (so_far.lines ++ line ∷ []) ++ pieces 10 behind
  these = so_far.parts ∙ ap (λ others. so_far.lines ++ others) (sym (pieces-first 10 rest line behind cut)) ∙ sym (append_assoc so_far.lines (line ∷ []) (pieces 10 behind))

  pub line-so_far : (new : List Event) (next : ℕ) → next ≡ min (number + 1) last_count → AddsLine connection (line_of line) old new
      → ReadSoFar connection text behind new next
  line-so_far new next counted adds = record {
    lines = so_far.lines ++ line ∷ [];
    parts = these;
    read = line-read connection so_far.lines line old new so_far.read adds;
    counted = omega (arith, counted, so_far.counted, length-append so_far.lines (line ∷ []));
  }

  pub line-bad : (fault : SessionFault) → FailsLine connection (line_of line) number fault → TellsFirstBad connection text fault
  line-bad (BadLine l) (bad, is) = (
    length so_far.lines + 1,
    record {
      before = so_far.lines;
      line = line;
      others = without_empty_end (pieces 10 behind);
      parts = ap without_empty_end these
          ∙ last-lines (so_far.lines ++ line ∷ []) (pieces 10 behind) (pieces-some 10 behind)
          ∙ append_assoc so_far.lines (line ∷ []) (without_empty_end (pieces 10 behind));
      good = so_far.read.good;
      bad = bad;
      counted = refl;
    },
    is ∙ so_far.counted,
  )
  line-bad OutOfMemory none = tt

-- the bytes behind the last line feed
module _ (connection : ℕ) (text rest : List ℕ) (old : List Event) (number : ℕ) (none : None ≡ split_at_first 10 rest) (so_far : ReadSoFar connection text rest old number) where
  lines-here : lines_of text ≡ so_far.lines ++ without_empty_end (rest ∷ [])
  lines-here =
      ap without_empty_end (so_far.parts ∙ ap (λ others. so_far.lines ++ others) (sym (pieces-one 10 rest none)))
      ∙ last-lines so_far.lines (rest ∷ []) (λ e. let h = e in cc)

  -- are no line where there are none
  text-read : rest ≡ [] → Asks connection text old
  text-read empty = record {
    script = ap (script false) (lines-here ∙ ap (λ r. so_far.lines ++ without_empty_end (r ∷ [])) empty ∙ append-nil so_far.lines) ∙ so_far.read.said;
    own = so_far.read.own;
  }

  one-more : rest ≢ [] → lines_of text ≡ so_far.lines ++ rest ∷ []
  one-more some = lines-here ∙ ap (λ ls. so_far.lines ++ ls) (by rest some)
    where
      by : (r : List ℕ) → r ≢ [] → without_empty_end (r ∷ []) ≡ r ∷ []
      by [] some = absurd (some refl)
      by (b ∷ bs) some = refl

  pub empty-read : (empty : Bool) → empty ≡ (length rest == 0) → empty ≡ true → Asks connection text old
  empty-read empty is holds = text-read (nil_from_length rest (eqb-true (length rest) 0 (sym is ∙ holds)))

  some-of : (empty : Bool) → empty ≡ (length rest == 0) → empty ≡ false → rest ≢ []
  some-of empty is fails e = false≢true (sym fails ∙ is ∙ eq-eqb (length rest) 0 (ap length e))

  -- and else the last line
  pub last-read : (empty : Bool) → empty ≡ (length rest == 0) → empty ≡ false → (new : List Event) → AddsLine connection (line_of rest) old new → Asks connection text new
  last-read empty is fails new adds =
      let some = some-of empty is fails in
      let all = line-read connection so_far.lines rest old new so_far.read adds in
      record { script = ap (script false) (one-more some) ∙ all.said; own = all.own }

  pub last-bad : (empty : Bool) → empty ≡ (length rest == 0) → empty ≡ false → (fault : SessionFault) → FailsLine connection (line_of rest) number fault → TellsFirstBad connection text fault
  last-bad empty is fails (BadLine l) (bad, told) = (
    length so_far.lines + 1,
    record {
      before = so_far.lines;
      line = rest;
      others = [];
      parts = one-more (some-of empty is fails);
      good = so_far.read.good;
      bad = bad;
      counted = refl;
    },
    told ∙ so_far.counted,
  )
  last-bad empty is fails OutOfMemory none = tt

-- ---- the session

-- of these events
pub session-asks : (connection : ℕ) (text : List ℕ) (events : List Event) (session : Conversation) → Asks connection text events
    → session ≡ unanswered connection events → IsSessionOf connection text session
session-asks connection text events session asks anew =
    let same : events ≡ session.events = sym (ap (λ s. s.events) anew) in
    record {
      asks = subst (λ es. Asks connection text es) same asks;
      anew = anew ∙ ap (λ es. unanswered connection es) same;
    }
