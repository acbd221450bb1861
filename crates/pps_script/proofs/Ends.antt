-- What became of a script, once all that was held is sent.
use Rattle.std.proofs.Common.{◌≡◌, ℕ, length, take, true, false, List, [], ◌++◌, Option, Some, None, Result, Ok, Err, append-nil, refl, sym, ap, subst, ◌∙◌, arith}
use Rattle.std.proofs.Math.Seq.{take-length}
use Rattle.std.specs.Io.KnownBytes.{Appends, Consumes}
use Rattle.pps_types.specs.Content.{Content}
use Rattle.pps_types.specs.Text.{lines_of}
use Rattle.pps_types.specs.Writing.{SendsPart}
use Rattle.pps_types.specs.Runs.{Answered, events_of}
use Rattle.pps_types.specs.Stands.{RunsSeen}
use Rattle.pps_types.proofs.KnownBytes.{Appends-same, Consumes-none, keeps_itself}
use Rattle.pps_engine.proofs.Runs.{runs-stand}
use Rattle.pps_types.proofs.Writing.{holds-part, holds-sent, part-more}
use Rattle.pps_script.specs.declared.manner.Manner.{Manner}
use Rattle.pps_script.specs.declared.fault.ScriptFault.{ScriptFault}
use Rattle.pps_script.specs.declared.fault.ScriptFault.TheVariants.{BadLine, OutOfMemory, ReadFault, WriteFault}
use Rattle.script_text.specs.Script.{answers_of}
use Rattle.pps_script.specs.BadLines.{passed}
use Rattle.pps_script.proofs.Reported.{ends-unreported}
use Rattle.pps_script.specs.Served.{Serves, AnswersWhole, AnswersFirst, Ran}
use Rattle.pps_script.specs.Lines.{ServesLines, ServesWhole, EndsInput, RunsInput, ends_cut_off}

serves-of : (from to : Option (List ℕ)) (old new : Content) (text : List ℕ) (answered : List Answered) → Consumes from to text → RunsSeen old answered new
    → Serves from to old new text answered
serves-of from to old new text answered read seen = record { read = read; runs = runs-stand answered old new seen; seen = seen }

-- nothing was read
pub first-none : (how : Manner) (Reported : List ℕ → Type 0) (from before : Option (List ℕ)) (c : Content) → Reported [] → AnswersFirst how Reported from from before before c c
first-none how Reported from before c none = record {
  text = [];
  answered = [];
  more = [];
  served = serves-of from from c c [] [] (Consumes-none from from (keeps_itself from)) refl;
  script = refl;
  sent = 0;
  written = Appends-nothing before;
  numbers = [];
  others = passed how.patient 0 [];
  bad = refl;
  reported = none;
}
  where
    Appends-nothing : (a : Option (List ℕ)) → Appends a a []
    Appends-nothing None = tt
    Appends-nothing (Some xs) = sym (append-nil xs)

-- ---- where reading or writing failed

pub ran-unread : (how : Manner) (Reported : List ℕ → Type 0) (from to before after : Option (List ℕ)) (left : List ℕ) (old new : Content)
    → ServesWhole how Reported from to before after left old new → AnswersWhole how Reported from to before after old new
ran-unread how Reported from to before after left old new s = record {
  text = s.text;
  answered = s.serves.answered;
  served = serves-of from to old new s.text s.serves.answered s.read s.serves.seen;
  script = s.serves.said;
  written = Appends-same before after _ _ (sym (s.serves.written.parts ∙ ap (λ t. s.serves.written.sent ++ t) s.sent ∙ append-nil s.serves.written.sent)) s.serves.written.written;
  reported = s.reported;
}

pub ran-unwritten : (how : Manner) (Reported : List ℕ → Type 0) (from to before after : Option (List ℕ)) (left : List ℕ) (old new : Content)
    → EndsInput how Reported from to before after left old new WriteFault → AnswersFirst how Reported from to before after old new
ran-unwritten how Reported from to before after left old new s = record {
  text = s.text;
  answered = s.ends.answered;
  more = s.ends.more;
  served = serves-of from to old new s.text s.ends.answered s.read s.ends.seen;
  script = s.ends.said;
  sent = s.ends.written.sent;
  written = s.ends.written.written;
  numbers = s.numbers;
  others = s.others;
  bad = s.bad;
  reported = s.reported;
}

-- ---- else all that is held is sent, or a part of it

-- what was held of the answers to all
module _ (how : Manner) (Reported : List ℕ → Type 0) (from to before middle after : Option (List ℕ)) (left : List ℕ) (old new : Content) where
  all-part : (text : List ℕ) (read : Consumes from to text) (bad : Option ℕ) → ServesLines how before [] middle left old new (lines_of text) bad → SendsPart middle after left
      → (numbers others : List ℕ) → passed how.patient 0 (lines_of text) ≡ numbers ++ others → Reported numbers → AnswersFirst how Reported from to before after old new
  all-part text read bad s sends numbers others parts reported =
      let part = holds-part before middle after left _ [] s.written (subst (λ t. SendsPart middle after t) (sym (append-nil left)) sends) in
      record {
        text = text;
        answered = s.answered;
        more = [];
        served = serves-of from to old new text s.answered read s.seen;
        script = ap (λ s. s.events) s.said ∙ sym (append-nil (events_of s.answered));
        sent = part.sent;
        written = Appends-same before after _ _ (ap (take part.sent) (append-nil (answers_of how.show s.answered))) part.written;
        numbers = numbers;
        others = others;
        bad = parts;
        reported = reported;
      }

  first-part : (s : EndsInput how Reported from to before middle left old new OutOfMemory) → SendsPart before after s.ends.told → AnswersFirst how Reported from to before after old new
  first-part s sends =
      let part = part-more before after s.ends.told s.ends.untold sends in
      record {
        text = s.text;
        answered = s.ends.answered;
        more = s.ends.more;
        served = serves-of from to old new s.text s.ends.answered s.read s.ends.seen;
        script = s.ends.said;
        sent = part.sent;
        written = Appends-same before after _ _ (ap (take part.sent) (sym s.ends.parts)) part.written;
        numbers = s.numbers;
        others = s.others;
        bad = s.bad;
        reported = s.reported;
      }

  pub ran-sent : (X : Type 0) (r : Result X ScriptFault) → ends_cut_off r ≡ false → RunsInput how Reported from to before middle left old new r → Appends middle after left
      → Ran how Reported from to before after old new r
  ran-sent X (Ok x) whole s sends = record {
    text = s.text;
    answered = s.serves.answered;
    served = serves-of from to old new s.text s.serves.answered s.read s.serves.seen;
    whole = s.whole;
    script = s.serves.said;
    written = holds-sent before middle after left _ s.serves.written sends;
    reported = s.reported;
  }
  ran-sent X (Err (BadLine line)) whole s sends = record {
    text = s.text;
    answered = s.ends.serves.answered;
    number = s.ends.number;
    served = serves-of from to old new s.text s.ends.serves.answered s.read s.ends.serves.seen;
    script = s.ends.serves.said;
    told = omega (arith, s.ends.told);
    written = holds-sent before middle after left _ s.ends.serves.written sends;
    reported = subst Reported (ends-unreported how.patient 0 s.ends.number (lines_of s.text) s.numbers s.others (ap (λ x. x.bad) s.ends.serves.said) s.bad) s.reported;
  }
  ran-sent X (Err OutOfMemory) whole s sends =
      first-part s record { sent = length s.ends.told; written = Appends-same before after _ _ (sym (take-length s.ends.told)) (holds-sent before middle after left _ s.ends.written sends) }
  ran-sent X (Err ReadFault) whole s sends = absurd (let h = whole in cc)
  ran-sent X (Err WriteFault) whole s sends = absurd (let h = whole in cc)

  pub ran-unsent : (X : Type 0) (r : Result X ScriptFault) → ends_cut_off r ≡ false → RunsInput how Reported from to before middle left old new r → SendsPart middle after left
      → AnswersFirst how Reported from to before after old new
  ran-unsent X (Ok x) whole s sends = all-part s.text s.read None s.serves sends (passed how.patient 0 (lines_of s.text)) [] (sym (append-nil _)) s.reported
  ran-unsent X (Err (BadLine line)) whole s sends = all-part s.text s.read (Some s.ends.number) s.ends.serves sends s.numbers s.others s.bad s.reported
  ran-unsent X (Err OutOfMemory) whole s sends =
      first-part s (subst (λ t. SendsPart before after t) (append-nil s.ends.told)
      (holds-part before middle after left _ [] s.ends.written (subst (λ t. SendsPart middle after t) (sym (append-nil left)) sends)))
  ran-unsent X (Err ReadFault) whole s sends = absurd (let h = whole in cc)
  ran-unsent X (Err WriteFault) whole s sends = absurd (let h = whole in cc)

-- where reading or writing failed, nothing more is sent
pub ran-cut_off : (X : Type 0) (how : Manner) (Reported : List ℕ → Type 0) (from to before after : Option (List ℕ)) (left : List ℕ) (old new : Content) (r : Result X ScriptFault)
    → ends_cut_off r ≡ true → RunsInput how Reported from to before after left old new r → Ran how Reported from to before after old new r
ran-cut_off X how Reported from to before after left old new (Err ReadFault) cut s = ran-unread how Reported from to before after left old new s
ran-cut_off X how Reported from to before after left old new (Err WriteFault) cut s = ran-unwritten how Reported from to before after left old new s
ran-cut_off X how Reported from to before after left old new (Ok x) cut s = absurd (let h = cut in cc)
ran-cut_off X how Reported from to before after left old new (Err (BadLine line)) cut s = absurd (let h = cut in cc)
ran-cut_off X how Reported from to before after left old new (Err OutOfMemory) cut s = absurd (let h = cut in cc)
