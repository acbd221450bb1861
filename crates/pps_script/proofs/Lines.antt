-- Lines served one after the other, and the answers to them.
use Rattle.std.proofs.Common.{◌≡◌, ◌≢◌, ◌+◌, ℕ, length, min, Bool, true, false, List, [], ◌∷◌, ◌++◌, Option, Some, None, Err, append_assoc, append-nil, refl, sym, ap, subst, ◌∙◌, inl, inr, arith}
use Rattle.std.specs.Prelude.{option_map}
use Rattle.std.proofs.lemmas.Grind.{flat_map-append}
use Rattle.std.proofs.lemmas.List.{map-append}
use Rattle.pps_types.specs.declared.event.Event.{Event}
use Rattle.pps_types.specs.Content.{Content}
use Rattle.pps_types.specs.Device.{last_count}
use Rattle.pps_types.specs.Writing.{SendsPart, Holds}
use Rattle.pps_types.specs.declared.exchange.AnswerFault.{AnswerFault}
use Rattle.pps_types.specs.declared.exchange.AnswerFault.TheVariants as answers
use Rattle.pps_types.specs.Exchange.{Answers}
use Rattle.pps_types.specs.Runs.{Answered, events_of}
use Rattle.pps_engine.proofs.Runs.{runs-append}
use Rattle.pps_types.proofs.Writing.{holds-then, holds-part, holds-same}
use Rattle.pps_script.specs.declared.manner.Manner.{Manner}
use Rattle.script_text.specs.ScriptLines.{line_of}
use Rattle.script_text.specs.declared.script_line.ScriptLine.{ScriptLine}
use Rattle.script_text.specs.declared.script_line.ScriptLine.TheVariants.{Nothing, Command}
use Rattle.pps_script.specs.declared.fault.ScriptFault.{ScriptFault}
use Rattle.pps_script.specs.declared.fault.ScriptFault.TheVariants.{BadLine, OutOfMemory, ReadFault, WriteFault}
use Rattle.pps_script.specs.Faults.{of_answer}
use Rattle.script_text.specs.Script.{script, heard, or_nothing, with_line, printed, answers_of}
use Rattle.pps_script.specs.Lines.{ServesLine, Unanswered, ServesLines, HoldsFirst, SendsFirst, EndsLines}
use Rattle.script_text.proofs.Scripts.{joined, script-good, script-bad, script-grows}

events-append : (first second : List Answered) → events_of (first ++ second) ≡ events_of first ++ events_of second
events-append first second = map-append (λ x. x.event) first second

answers-append : (how : Manner) (first second : List Answered) → answers_of how.show (first ++ second) ≡ answers_of how.show first ++ answers_of how.show second
answers-append how first second = flat_map-append (λ x. printed how.show x.event x.reply) first second

-- nothing happens to what is held
pub holds-itself : (a : Option (List ℕ)) (held : List ℕ) → Holds a a held held
holds-itself a held = subst (λ t. Holds a a held t) (append-nil held) (holds-same a held)

-- ---- none, and one

pub serves-none : (how : Manner) (a : Option (List ℕ)) (held : List ℕ) (c : Content) → ServesLines how a held a held c c [] None
serves-none how a held c = record {
  answered = [];
  said = refl;
  seen = refl;
  written = holds-same a held;
}

-- a line that says something or nothing, whose text was added to what is held
pub serves-one : (how : Manner) (a b : Option (List ℕ)) (held left text : List ℕ) (old new : Content) (line : List ℕ)
    → ServesLine how.show old (heard how.patient line) text new → Holds a b left (held ++ text) → ServesLines how a held b left old new (line ∷ []) None
serves-one how a b held left text old new line serves holds = by (heard how.patient line) refl serves
  where
    by : (said : Option ScriptLine) → heard how.patient line ≡ said → ServesLine how.show old said text new → ServesLines how a held b left old new (line ∷ []) None
    by None is serves = absurd serves
    by (Some Nothing) is serves = record {
      answered = [];
      said = ap (λ s. with_line s record { events = []; bad = None }) is;
      seen = serves.1;
      written = subst (λ t. Holds a b left (held ++ t)) serves.0 holds;
    }
    by (Some (Command e)) is (reply, steps, same) = record {
      answered = record { event = e; reply = reply } ∷ [];
      said = ap (λ s. with_line s record { events = []; bad = None }) is;
      seen = (new, steps, refl);
      written = subst (λ t. Holds a b left (held ++ t)) (same ∙ sym (append-nil (printed how.show e reply))) holds;
    }

-- what is heard of a line that says something, and of one that is not answered
pub served-heard : (patient show : Bool) (said : Option ScriptLine) (text : List ℕ) (old new : Content) → ServesLine show old said text new → ServesLine show old (or_nothing patient said) text new
served-heard false show said text old new serves = serves
served-heard true show None text old new serves = absurd serves
served-heard true show (Some said) text old new serves = serves

-- it is not bad
pub served-said : (show : Bool) (said : Option ScriptLine) (text : List ℕ) (old new : Content) → ServesLine show old said text new → said ≢ None
served-said show None text old new serves = absurd serves
served-said show (Some said) text old new serves = λ e. let h = e in cc

pub unanswered-heard : (patient : Bool) (said : Option ScriptLine) (old new : Content) → Unanswered old said new → Unanswered old (or_nothing patient said) new
unanswered-heard false said old new un = un
unanswered-heard true None old new un = un
unanswered-heard true (Some said) old new un = un

-- a bad line, which ends a script, or at which it goes on
pub ends-bad : (how : Manner) (a : Option (List ℕ)) (held : List ℕ) (old new : Content) (line : List ℕ) → how.patient ≡ false → line_of line ≡ None → new ≡ old
    → ServesLines how a held a held old new (line ∷ []) (Some 1)
ends-bad how a held old new line strict bad same = record {
  answered = [];
  said = ap (λ s. with_line s record { events = []; bad = None }) (ap (λ p. or_nothing p (line_of line)) strict ∙ bad);
  seen = same;
  written = holds-same a held;
}

pub passes-bad : (how : Manner) (a : Option (List ℕ)) (held : List ℕ) (old new : Content) (line : List ℕ) → how.patient ≡ true → line_of line ≡ None → new ≡ old
    → ServesLines how a held a held old new (line ∷ []) None
passes-bad how a held old new line patient bad same = record {
  answered = [];
  said = ap (λ s. with_line s record { events = []; bad = None }) (ap (λ p. or_nothing p (line_of line)) patient ∙ ap (or_nothing true) bad);
  seen = same;
  written = holds-same a held;
}

-- a line whose answer was not made
pub holds-one : (how : Manner) (a b : Option (List ℕ)) (held left : List ℕ) (old new : Content) (line : List ℕ)
    → Unanswered old (heard how.patient line) new → Holds a b left held → HoldsFirst how a held b left old new (line ∷ [])
holds-one how a b held left old new line un holds = by (heard how.patient line) refl un
  where
    written : Holds a b left (held ++ [])
    written = subst (λ t. Holds a b left t) (sym (append-nil held)) holds

    nothing : new ≡ old → HoldsFirst how a held b left old new (line ∷ [])
    nothing same = record { answered = []; more = (script how.patient (line ∷ [])).events; said = refl; seen = same; told = []; untold = []; parts = refl; written = written }

    by : (said : Option ScriptLine) → heard how.patient line ≡ said → Unanswered old said new → HoldsFirst how a held b left old new (line ∷ [])
    by None is un = nothing un
    by (Some Nothing) is un = nothing un
    by (Some (Command e)) is (inl same) = nothing same
    by (Some (Command e)) is (inr (reply, steps)) = record {
      answered = record { event = e; reply = reply } ∷ [];
      more = [];
      said = ap (λ s. (with_line s record { events = []; bad = None }).events) is;
      seen = (new, steps, refl);
      told = [];
      untold = answers_of how.show (record { event = e; reply = reply } ∷ []);
      parts = refl;
      written = written;
    }

-- a line that was served, and whose answer is not held
pub unheld-one : (how : Manner) (old new : Content) (text line : List ℕ) → ServesLine how.show old (heard how.patient line) text new → Unanswered old (heard how.patient line) new
unheld-one how old new text line serves = by (heard how.patient line) serves
  where
    by : (said : Option ScriptLine) → ServesLine how.show old said text new → Unanswered old said new
    by None serves = absurd serves
    by (Some Nothing) serves = serves.1
    by (Some (Command e)) (reply, steps, same) = inr (reply, steps)

-- a line whose answer is written in part
pub sends-one : (how : Manner) (a b : Option (List ℕ)) (held text : List ℕ) (old new : Content) (line : List ℕ)
    → ServesLine how.show old (heard how.patient line) text new → SendsPart a b (held ++ text) → SendsFirst how a held b old new (line ∷ [])
sends-one how a b held text old new line serves sends = by (heard how.patient line) refl serves
  where
    by : (said : Option ScriptLine) → heard how.patient line ≡ said → ServesLine how.show old said text new → SendsFirst how a held b old new (line ∷ [])
    by None is serves = absurd serves
    by (Some Nothing) is serves = record {
      answered = [];
      more = (script how.patient (line ∷ [])).events;
      said = refl;
      seen = serves.1;
      written = subst (λ t. SendsPart a b (held ++ t)) serves.0 sends;
    }
    by (Some (Command e)) is (reply, steps, same) = record {
      answered = record { event = e; reply = reply } ∷ [];
      more = [];
      said = ap (λ s. (with_line s record { events = []; bad = None }).events) is;
      seen = (new, steps, refl);
      written = subst (λ t. SendsPart a b (held ++ t)) (same ∙ sym (append-nil (printed how.show e reply))) sends;
    }

-- ---- some lines, and others after them

module _ (how : Manner) (a b c : Option (List ℕ)) (held middle left : List ℕ) (old next new : Content) (first : List (List ℕ))
    (serves : ServesLines how a held b middle old next first None) where
  good : (script how.patient first).bad ≡ None
  good = ap (λ s. s.bad) serves.said

  -- the answers to both, behind what was held
  answers-both : (answered : List Answered) → (held ++ answers_of how.show serves.answered) ++ answers_of how.show answered ≡ held ++ answers_of how.show (serves.answered ++ answered)
  answers-both answered = append_assoc held (answers_of how.show serves.answered) (answers_of how.show answered) ∙ ap (λ t. held ++ t) (sym (answers-append how serves.answered answered))

  events-both : (second : List (List ℕ)) (answered : List Answered) (more : List Event) → (script how.patient second).events ≡ events_of answered ++ more
      → (script how.patient (first ++ second)).events ≡ events_of (serves.answered ++ answered) ++ more
  events-both second answered more said =
      ap (λ s. s.events) (script-good how.patient first second good)
      ∙ ap (λ s. s.events ++ (script how.patient second).events) serves.said
      ∙ ap (λ es. events_of serves.answered ++ es) said
      ∙ sym (append_assoc (events_of serves.answered) (events_of answered) more)
      ∙ ap (λ es. es ++ more) (sym (events-append serves.answered answered))

  pub serves-then : (second : List (List ℕ)) (bad : Option ℕ) → ServesLines how b middle c left next new second bad
      → ServesLines how a held c left old new (first ++ second) (option_map (λ n. length first + n) bad)
  serves-then second bad q = record {
    answered = serves.answered ++ q.answered;
    said = script-good how.patient first second good
        ∙ ap (λ s. joined s (length first) (script how.patient second)) serves.said
        ∙ ap (λ s. joined record { events = events_of serves.answered; bad = None } (length first) s) q.said
        ∙ ap (λ es. record { events = es; bad = option_map (λ n. length first + n) bad }) (sym (events-append serves.answered q.answered));
    seen = runs-append old next new serves.answered q.answered serves.seen q.seen;
    written = subst (λ t. Holds a c left t) (answers-both q.answered) (holds-then a b c middle left _ (answers_of how.show q.answered) serves.written q.written);
  }

  pub holds-then-first : (second : List (List ℕ)) → HoldsFirst how b middle c left next new second → HoldsFirst how a held c left old new (first ++ second)
  holds-then-first second q = record {
    answered = serves.answered ++ q.answered;
    more = q.more;
    said = events-both second q.answered q.more q.said;
    seen = runs-append old next new serves.answered q.answered serves.seen q.seen;
    told = answers_of how.show serves.answered ++ q.told;
    untold = q.untold;
    parts = answers-append how serves.answered q.answered ∙ ap (λ t. answers_of how.show serves.answered ++ t) q.parts ∙ sym (append_assoc (answers_of how.show serves.answered) q.told q.untold);
    written = subst (λ t. Holds a c left t) (append_assoc held (answers_of how.show serves.answered) q.told) (holds-then a b c middle left _ q.told serves.written q.written);
  }

  pub sends-then-first : (second : List (List ℕ)) → SendsFirst how b middle c next new second → SendsFirst how a held c old new (first ++ second)
  sends-then-first second q = record {
    answered = serves.answered ++ q.answered;
    more = q.more;
    said = events-both second q.answered q.more q.said;
    seen = runs-append old next new serves.answered q.answered serves.seen q.seen;
    written = subst (λ t. SendsPart a c t) (answers-both q.answered) (holds-part a b c middle _ (answers_of how.show q.answered) serves.written q.written);
  }

  -- where the script ends after so many lines
  pub ends-then : (count more : ℕ) (second : List (List ℕ)) (fault : ScriptFault) → more ≡ min (count + length first) last_count
      → EndsLines how more b middle c left next new second fault → EndsLines how count a held c left old new (first ++ second) fault
  ends-then count more second (BadLine line) is ends = record {
    number = length first + ends.number;
    told = omega (arith, is, ends.told);
    serves = serves-then second (Some ends.number) ends.serves;
  }
  ends-then count more second OutOfMemory is ends = holds-then-first second ends
  ends-then count more second WriteFault is ends = sends-then-first second ends
  ends-then count more second ReadFault is ends = absurd ends

-- where the script ends, whatever comes after it
pub ends-more : (how : Manner) (count : ℕ) (a b : Option (List ℕ)) (held left : List ℕ) (old new : Content) (lines more : List (List ℕ)) (fault : ScriptFault)
    → EndsLines how count a held b left old new lines fault → EndsLines how count a held b left old new (lines ++ more) fault
ends-more how count a b held left old new lines more (BadLine line) ends = record {
  number = ends.number;
  told = ends.told;
  serves = record {
    answered = ends.serves.answered;
    said = script-bad how.patient lines more ends.number (ap (λ s. s.bad) ends.serves.said) ∙ ends.serves.said;
    seen = ends.serves.seen;
    written = ends.serves.written;
  };
}
ends-more how count a b held left old new lines more OutOfMemory ends =
    let grown = script-grows how.patient lines more in
    record {
      answered = ends.answered;
      more = ends.more ++ grown.0;
      said = grown.1 ∙ ap (λ es. es ++ grown.0) ends.said ∙ append_assoc (events_of ends.answered) ends.more grown.0;
      seen = ends.seen;
      told = ends.told;
      untold = ends.untold;
      parts = ends.parts;
      written = ends.written;
    }
ends-more how count a b held left old new lines more WriteFault ends =
    let grown = script-grows how.patient lines more in
    record {
      answered = ends.answered;
      more = ends.more ++ grown.0;
      said = grown.1 ∙ ap (λ es. es ++ grown.0) ends.said ∙ append_assoc (events_of ends.answered) ends.more grown.0;
      seen = ends.seen;
      written = ends.written;
    }
ends-more how count a b held left old new lines more ReadFault ends = absurd ends

-- lines that are served, and no more memory
pub held-of : (how : Manner) (a b : Option (List ℕ)) (held left : List ℕ) (old new : Content) (lines : List (List ℕ))
    → ServesLines how a held b left old new lines None → HoldsFirst how a held b left old new lines
held-of how a b held left old new lines serves = record {
  answered = serves.answered;
  more = [];
  said = ap (λ s. s.events) serves.said ∙ sym (append-nil (events_of serves.answered));
  seen = serves.seen;
  told = answers_of how.show serves.answered;
  untold = [];
  parts = sym (append-nil (answers_of how.show serves.answered));
  written = serves.written;
}

-- a line whose answer was not taken
pub answer-refused : (X : Type 0) (how : Manner) (count : ℕ) (a b : Option (List ℕ)) (held left text given : List ℕ) (old new : Content) (line : List ℕ) (fault : AnswerFault)
    → ServesLine how.show old (heard how.patient line) text new → given ≡ text → Answers {X = X} a held b left given (Err fault) → EndsLines how count a held b left old new (line ∷ []) (of_answer fault)
answer-refused X how count a b held left text given old new line answers.OutOfMemory serves is holds =
    holds-one how a b held left old new line (unheld-one how old new text line serves) holds
answer-refused X how count a b held left text given old new line answers.WriteFault serves is sends =
    sends-one how a b held text old new line serves (subst (λ t. SendsPart a b (held ++ t)) is sends)

-- ---- the same where whether values are shown stayed as it was

pub serves-shown : {a b : Option (List ℕ)} {held left : List ℕ} {old new : Content} {lines : List (List ℕ)} {bad : Option ℕ} (other how : Manner) → other ≡ how
    → ServesLines other a held b left old new lines bad → ServesLines how a held b left old new lines bad
serves-shown {a} {b} {held} {left} {old} {new} {lines} {bad} other how same p = subst (λ s. ServesLines s a held b left old new lines bad) same p

pub ends-shown : (count : ℕ) (a b : Option (List ℕ)) (held left : List ℕ) (old new : Content) (lines : List (List ℕ)) (fault : ScriptFault) (other how : Manner) → other ≡ how
    → EndsLines other count a held b left old new lines fault → EndsLines how count a held b left old new lines fault
ends-shown count a b held left old new lines fault other how same p = subst (λ s. EndsLines s count a held b left old new lines fault) same p
