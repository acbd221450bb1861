-- Sessions of script files, before they are served and after.
use Rattle.std.proofs.Common.{◌≡◌, ◌+◌, ◌<◌, ◌≤◌, ℕ, length, List, [], ◌∷◌, ◌++◌, length-append, sym, ap, subst, ◌∙◌, arith, inl, inr}
use Rattle.std.specs.Prelude.{slice_index_or, Option, None, Some, Result, Ok, Err, OnErr}
use Rattle.std.proofs.lemmas.List.{get_or_append_left}
use Rattle.std.proofs.Math.Seq.{get_or-append_seam}
use Rattle.std.proofs.Math.Nat.{eq-or-lt_of_le}
use Rattle.std.specs.Io.KnownBytes.{Appends}
use Rattle.pps_types.specs.Writing.{SendsPart}
use Rattle.pps_dispatch.specs.History.{Pieces, joined, AreServedByName}
use Rattle.pps_dispatch.specs.Printed.{sessions_text, connections_of}
use Rattle.pps_dispatch.specs.Serving.{connection_at, IsOfScript, AreOfScripts, AreServedAs}
use Rattle.pps_dispatch.specs.Sessions.{Conversation}
use Rattle.pps_dispatch.proofs.SessionsServed.{same-connections}
use Rattle.pps_jobs.specs.declared.fault.Failure.{Failure}
use Rattle.pps_cli.specs.Sessions.{IsOfFile, AreOfFiles, FailsSession, FailsSessions, PrintsFiles, PrintsSomeFiles}

-- what holds of a file's bytes holds of some
of_some : (held : Option (List ℕ)) (connection : ℕ) (session : Conversation) → IsOfFile held connection session → IsOfScript connection session
of_some None connection session h = h
of_some (Some bytes) connection session h = (bytes, h)

pub of_scripts : (held : List ℕ → Option (List ℕ)) (files : List (List ℕ)) (sessions : List Conversation) → AreOfFiles held files sessions → AreOfScripts sessions
of_scripts held files sessions of = record {
  each = λ k d lt. of_some (held (slice_index_or files k [])) (connection_at k) (slice_index_or sessions k d) (of.each k d lt);
}

abbrev At : (held : List ℕ → Option (List ℕ)) → List (List ℕ) → ℕ → Conversation → Type 0
At held files j s = IsOfFile (held (slice_index_or files j [])) (connection_at j) s

-- one more
pub of_files-more : (held : List ℕ → Option (List ℕ)) (files : List (List ℕ)) (sessions : List Conversation) (session : Conversation) (k connection : ℕ)
    → IsOfFile (held (slice_index_or files k [])) connection session → AreOfFiles held files sessions
    → length sessions ≡ k → connection ≡ connection_at k → AreOfFiles held files (sessions ++ session ∷ [])
of_files-more held files sessions session k connection one of count is = record { each = at }
  where
    last : (d : Conversation) → slice_index_or (sessions ++ session ∷ []) (length sessions) d ≡ session
    last d = get_or-append_seam sessions session [] d

    at_most : (j : ℕ) → j < length (sessions ++ session ∷ []) → j ≤ length sessions
    at_most j lt = omega (arith, lt, length-append sessions (session ∷ []))

    here : At held files (length sessions) session
    here = subst (λ n. At held files n session) (sym count) (subst (λ c. IsOfFile (held (slice_index_or files k [])) c session) is one)

    at : (j : ℕ) (d : Conversation) → j < length (sessions ++ session ∷ []) → At held files j (slice_index_or (sessions ++ session ∷ []) j d)
    at j d lt = elim (eq-or-lt_of_le (at_most j lt)) [
      | inl is-last ↦
          subst (λ n. At held files n (slice_index_or (sessions ++ session ∷ []) n d)) (sym is-last)
          (subst (λ s. At held files (length sessions) s) (sym (last d)) here)
      | inr before ↦ subst (λ s. At held files j s) (sym (get_or_append_left sessions (session ∷ []) d j before)) (of.each j d before)
    ]

-- none at that place
pub fails-at : (held : List ℕ → Option (List ℕ)) (files : List (List ℕ)) (k connection : ℕ) (file : List ℕ) (failure : Failure)
    → k < length files → slice_index_or files k [] ≡ file → connection ≡ connection_at k
    → FailsSession (held file) connection file failure → FailsSessions held files failure
fails-at held files k connection file failure within here is why = record {
  place = k;
  within = within;
  why = subst (λ f. FailsSession (held f) (connection_at k) f failure) (sym here) (subst (λ c. FailsSession (held file) c file failure) is why);
}

-- ---- what is printed in the end

module _ (held : List ℕ → Option (List ℕ)) (files : List (List ℕ)) (olds news : List Conversation) (history : Pieces) (a b : Option (List ℕ))
    (of : AreOfFiles held files olds) (served : AreServedAs (length files) olds history) (answered : AreServedByName history olds news) where
  -- what is written of the sessions that came back is that of those that were served
  same-text : sessions_text files (connections_of news) (joined history) ≡ sessions_text files (connections_of olds) (joined history)
  same-text = ap (λ cs. sessions_text files cs (joined history)) (same-connections history olds news answered)

  pub prints-files : Appends a b (sessions_text files (connections_of news) (joined history)) → PrintsFiles held files history a b
  prints-files written = record {
    prints = record { sessions = olds; served = served; written = subst (λ t. Appends a b t) same-text written };
    of = of;
  }

  pub prints-some-files : (X E : Type 0) (r : Result X E) → SendsPart a b (sessions_text files (connections_of news) (joined history)) → OnErr r (PrintsSomeFiles held files a b)
  prints-some-files X E (Ok x) written = tt
  prints-some-files X E (Err e) written = inr record {
    prints = record { sessions = olds; history = history; served = served; written = subst (λ t. SendsPart a b t) same-text written };
    of = of;
  }
