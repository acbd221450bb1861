-- Sessions in their order, before they are served and after.
use Rattle.std.proofs.Common.{◌≡◌, ◌<◌, ◌≤◌, ℕ, suc, length, true, List, [], ◌∷◌, ◌++◌, length-append, refl, sym, ap, subst, ◌∙◌, arith, inl, inr}
use Rattle.std.specs.Prelude.{slice_index_or, Option, Result, Ok, Err, OnErr}
use Rattle.std.proofs.lemmas.List.{get_or_append_left}
use Rattle.std.proofs.Math.Seq.{get_or-append_seam}
use Rattle.std.proofs.Math.Nat.{eq-or-lt_of_le}
use Rattle.pps_types.specs.Content.{Content}
use Rattle.pps_types.specs.Machine.{start}
use Rattle.pps_types.specs.Merge.{are_distinct}
use Rattle.pps_types.specs.Stands.{Stands}
use Rattle.pps_types.specs.Writing.{SendsPart}
use Rattle.pps_types.proofs.KnownBytes.{keeps_itself}
use Rattle.std.specs.Io.KnownBytes.{Appends}
use Rattle.pps_lock.specs.Trace.{Piece, Replays}
use Rattle.pps_dispatch.specs.Sessions.{Conversation}
use Rattle.pps_dispatch.specs.History.{joined, Joins, Merges, AreServedByName}
use Rattle.pps_dispatch.specs.Printed.{sessions_text, connections_of}
use Rattle.pps_dispatch.specs.Serving.{connection_at, IsOfScript, AreOfScripts, AreServedAs, PrintsAll, PrintsSome}

-- none
pub of_scripts-none : (sessions : List Conversation) → sessions ≡ [] → AreOfScripts sessions
of_scripts-none sessions none = record { each = λ k d lt. absurd (omega (arith, lt, ap length none)) }

-- one more
pub of_scripts-more : (sessions : List Conversation) (session : Conversation) (k connection : ℕ) → IsOfScript connection session → AreOfScripts sessions
    → length sessions ≡ k → connection ≡ connection_at k → AreOfScripts (sessions ++ session ∷ [])
of_scripts-more sessions session k connection one of count is = record { each = at }
  where
    last : (d : Conversation) → slice_index_or (sessions ++ session ∷ []) (length sessions) d ≡ session
    last d = get_or-append_seam sessions session [] d

    at_most : (j : ℕ) → j < length (sessions ++ session ∷ []) → j ≤ length sessions
    at_most j lt = omega (arith, lt, length-append sessions (session ∷ []))

    at : (j : ℕ) (d : Conversation) → j < length (sessions ++ session ∷ []) → IsOfScript (connection_at j) (slice_index_or (sessions ++ session ∷ []) j d)
    at j d lt = elim (eq-or-lt_of_le (at_most j lt)) [
      | inl here ↦
          subst (λ n. IsOfScript (connection_at n) (slice_index_or (sessions ++ session ∷ []) n d)) (sym here)
          (subst (λ s. IsOfScript (connection_at (length sessions)) s) (sym (last d))
          (subst (λ c. IsOfScript c session) (is ∙ ap connection_at (sym count)) one))
      | inr before ↦
          subst (λ s. IsOfScript (connection_at j) s) (sym (get_or_append_left sessions (session ∷ []) d j before)) (of.each j d before)
    ]

-- after serving they have the connections that they had
pub same-connections : (ps : List Piece) (olds news : List Conversation) → AreServedByName ps olds news → connections_of news ≡ connections_of olds
same-connections ps olds news served = by olds news served.named.count (λ k d lt. (served.named.each k d lt).connection)
  where
    by : (os ns : List Conversation) → length ns ≡ length os → ((k : ℕ) (d : Conversation) → k < length os → (slice_index_or ns k d).connection ≡ (slice_index_or os k d).connection)
        → connections_of ns ≡ connections_of os
    by [] [] count each = refl
    by [] (n ∷ ns) count each = absurd (omega (arith, count))
    by (o ∷ os) [] count each = absurd (omega (arith, count))
    by (o ∷ os) (n ∷ ns) count each =
        ap (λ c. c ∷ connections_of ns) (each 0 o (omega arith))
        ∙ ap (λ cs. o.connection ∷ cs) (by os ns (omega (arith, count)) (λ k d lt. each (suc k) d (omega (arith, lt))))

-- ---- what is printed in the end

pub are-served : (files : List (List ℕ)) (sessions : List Conversation) (history : List Piece) (first last : Content) → length sessions ≡ length files
    → AreOfScripts sessions → are_distinct (connections_of sessions) ≡ true → Stands first (start 1 256)
    → Joins 0 first history last → Replays first (joined history) last → Merges sessions history → AreServedAs (length files) sessions history
are-served files sessions history first last count scripts distinct empty joins replays merge = record {
  count = count;
  scripts = scripts;
  distinct = distinct;
  served = record { first = first; last = last; empty = empty; joins = joins; replays = replays; merge = merge };
}

-- nothing so far
pub prints-none : (X E : Type 0) (files : List (List ℕ)) (a : Option (List ℕ)) (r : Result X E) → OnErr r (PrintsSome files a a)
prints-none X E files a (Ok x) = tt
prints-none X E files a (Err e) = inl (keeps_itself a)

module _ (files : List (List ℕ)) (olds news : List Conversation) (history : List Piece) (a b : Option (List ℕ))
    (served : AreServedAs (length files) olds history) (answered : AreServedByName history olds news) where
  -- what is written of the sessions that came back is that of those that were served
  same-text : sessions_text files (connections_of news) (joined history) ≡ sessions_text files (connections_of olds) (joined history)
  same-text = ap (λ cs. sessions_text files cs (joined history)) (same-connections history olds news answered)

  pub prints-all : Appends a b (sessions_text files (connections_of news) (joined history)) → PrintsAll files history a b
  prints-all written = record { sessions = olds; served = served; written = subst (λ t. Appends a b t) same-text written }

  pub prints-some : (X E : Type 0) (r : Result X E) → SendsPart a b (sessions_text files (connections_of news) (joined history)) → OnErr r (PrintsSome files a b)
  prints-some X E (Ok x) written = tt
  prints-some X E (Err e) written = inr record { sessions = olds; history = history; served = served; written = subst (λ t. SendsPart a b t) same-text written }
