-- Events that are served one after the other, and the bytes that answer them.
use Rattle.std.proofs.Common.{◌≡◌, ℕ, ◌+◌, ◌<◌, List, [], ◌∷◌, ◌++◌, length, take, Option, Err, refl, sym, ap, subst, ◌∙◌, append_assoc, append-nil, get_or}
use Rattle.std.proofs.lemmas.Grind.{flat_map-append}
use Rattle.std.proofs.lemmas.List.{map-append, take_more}
use Rattle.pps_types.specs.declared.event.Event.{Event}
use Rattle.pps_types.specs.declared.exchange.AnswerFault.{AnswerFault}
use Rattle.pps_types.specs.declared.exchange.AnswerFault.TheVariants as answers
use Rattle.pps_types.specs.Exchange.{Answers}
use Rattle.pps_types.specs.Content.{Content}
use Rattle.pps_types.specs.Outcome.{Reply}
use Rattle.pps_types.specs.Writing.{SendsPart, Holds}
use Rattle.pps_types.specs.Frame.{answer_frame}
use Rattle.pps_types.specs.Runs.{Answered, events_of}
use Rattle.pps_types.specs.Stands.{StepsSeen}
use Rattle.pps_engine.proofs.Runs.{runs-append}
use Rattle.pps_types.proofs.Writing.{holds-then, holds-part, holds-same, part-more}
use Rattle.pps_frame.specs.declared.ends.RunError.{RunError}
use Rattle.pps_frame.specs.declared.ends.RunError.TheVariants.{OutOfMemory, ReadFault, WriteFault}
use Rattle.pps_frame.specs.Faults.{of_answer}
use Rattle.pps_frame.specs.Served.{answers_of}
use Rattle.pps_frame.specs.Sent.{AnswersFirst, ServesAll, ServesPart}

pub events-append : (first second : List Answered) → events_of (first ++ second) ≡ events_of first ++ events_of second
events-append first second = map-append (λ x. x.event) first second

pub answers-append : (first second : List Answered) → answers_of (first ++ second) ≡ answers_of first ++ answers_of second
answers-append first second = flat_map-append (λ x. answer_frame x.event.conn x.reply) first second

-- ---- bytes after those that were held

-- some bytes, and then others
pub holds-both : (a b c : Option (List ℕ)) (held middle left x y : List ℕ) → Holds a b middle (held ++ x) → Holds b c left (middle ++ y) → Holds a c left (held ++ (x ++ y))
holds-both a b c held middle left x y p q = subst (λ t. Holds a c left t) (append_assoc held x y) (holds-then a b c middle left (held ++ x) y p q)

-- some bytes, and then the first of others
pub first-then : (a b c : Option (List ℕ)) (held middle left x y : List ℕ) (fault : RunError) → Holds a b middle (held ++ x) → AnswersFirst fault b middle c left y → AnswersFirst fault a held c left (x ++ y)
first-then a b c held middle left x y OutOfMemory p q = record {
  first = x ++ q.first;
  others = q.others;
  parts = ap (λ t. x ++ t) q.parts ∙ sym (append_assoc x q.first q.others);
  written = holds-both a b c held middle left x q.first p q.written;
}
first-then a b c held middle left x y WriteFault p q = subst (λ t. SendsPart a c t) (append_assoc held x y) (holds-part a b c middle (held ++ x) y p q)
first-then a b c held middle left x y ReadFault p q = absurd q

-- the first of some bytes are the first of more
pub first-more : (a b : Option (List ℕ)) (held left x y : List ℕ) (fault : RunError) → AnswersFirst fault a held b left x → AnswersFirst fault a held b left (x ++ y)
first-more a b held left x y OutOfMemory p = record {
  first = p.first;
  others = p.others ++ y;
  parts = ap (λ t. t ++ y) p.parts ∙ append_assoc p.first p.others y;
  written = p.written;
}
first-more a b held left x y WriteFault p = subst (λ t. SendsPart a b t) (append_assoc held x y) (part-more a b (held ++ x) y p)
first-more a b held left x y ReadFault p = absurd p

-- none of them is taken
pub first-none : (a : Option (List ℕ)) (held bytes : List ℕ) → AnswersFirst OutOfMemory a held a held bytes
first-none a held bytes = record { first = []; others = bytes; parts = refl; written = holds-same a held }

-- an exchange did not take them
pub first-refused : (X : Type 0) (a b : Option (List ℕ)) (held left bytes : List ℕ) (fault : AnswerFault) → Answers {X = X} a held b left bytes (Err fault)
    → AnswersFirst (of_answer fault) a held b left bytes
first-refused X a b held left bytes answers.OutOfMemory p = record { first = []; others = bytes; parts = refl; written = subst (λ t. Holds a b left t) (sym (append-nil held)) p }
first-refused X a b held left bytes answers.WriteFault p = p

-- ---- events in order

pub one-more : {X : Type 0} (xs : List X) (at : ℕ) (x : X) → at < length xs → x ≡ get_or xs at x → take at xs ++ x ∷ [] ≡ take (at + 1) xs
one-more xs at x within is = sym (take_more xs at x within ∙ ap (λ y. take at xs ++ y ∷ []) (sym is))

pub serves-none : (a : Option (List ℕ)) (held : List ℕ) (c : Content) → ServesAll a held a held c c []
serves-none a held c = record { answered = []; same = refl; seen = refl; written = holds-same a held }

-- one event's answer is taken
pub serves-one : (a b : Option (List ℕ)) (held left : List ℕ) (old new : Content) (e : Event) (reply : Reply) → StepsSeen old e reply new
    → Holds a b left (held ++ answer_frame e.conn reply) → ServesAll a held b left old new (e ∷ [])
serves-one a b held left old new e reply steps written = record {
  answered = record { event = e; reply = reply } ∷ [];
  same = refl;
  seen = (new, steps, refl);
  written = subst (λ t. Holds a b left (held ++ t)) (sym (append-nil (answer_frame e.conn reply))) written;
}

-- or its first bytes
pub serves-part : (fault : RunError) (a b : Option (List ℕ)) (held left : List ℕ) (old new : Content) (e : Event) (reply : Reply) → StepsSeen old e reply new
    → AnswersFirst fault a held b left (answer_frame e.conn reply) → ServesPart fault a held b left old new (e ∷ [])
serves-part fault a b held left old new e reply steps part = record {
  answered = record { event = e; reply = reply } ∷ [];
  more = [];
  parts = refl;
  seen = (new, steps, refl);
  written = first-more a b held left (answer_frame e.conn reply) [] fault part;
}

module _ (a b c : Option (List ℕ)) (held middle left : List ℕ) (old next new : Content) (first second : List Event) (all : ServesAll a held b middle old next first) where
  -- some events, and then others
  pub serves-then : ServesAll b middle c left next new second → ServesAll a held c left old new (first ++ second)
  serves-then later = record {
    answered = all.answered ++ later.answered;
    same = events-append all.answered later.answered ∙ ap (λ (es : List Event). es ++ events_of later.answered) all.same ∙ ap (λ (es : List Event). first ++ es) later.same;
    seen = runs-append old next new all.answered later.answered all.seen later.seen;
    written = subst (λ t. Holds a c left (held ++ t)) (sym (answers-append all.answered later.answered))
        (holds-both a b c held middle left (answers_of all.answered) (answers_of later.answered) all.written later.written);
  }

  -- some events, and then the first of others
  pub serves-then-part : (fault : RunError) → ServesPart fault b middle c left next new second → ServesPart fault a held c left old new (first ++ second)
  serves-then-part fault later = record {
    answered = all.answered ++ later.answered;
    more = later.more;
    parts = ap (λ (es : List Event). es ++ second) (sym all.same) ∙ ap (λ (es : List Event). events_of all.answered ++ es) later.parts
        ∙ sym (append_assoc (events_of all.answered) (events_of later.answered) later.more)
        ∙ ap (λ (es : List Event). es ++ later.more) (sym (events-append all.answered later.answered));
    seen = runs-append old next new all.answered later.answered all.seen later.seen;
    written = subst (λ t. AnswersFirst fault a held c left t) (sym (answers-append all.answered later.answered))
        (first-then a b c held middle left (answers_of all.answered) (answers_of later.answered) fault all.written later.written);
  }

-- the first of some events are the first of more
pub serves-less : (fault : RunError) (a b : Option (List ℕ)) (held left : List ℕ) (old new : Content) (first second : List Event)
    → ServesPart fault a held b left old new first → ServesPart fault a held b left old new (first ++ second)
serves-less fault a b held left old new first second part = record {
  answered = part.answered;
  more = part.more ++ second;
  parts = ap (λ (es : List Event). es ++ second) part.parts ∙ append_assoc (events_of part.answered) part.more second;
  seen = part.seen;
  written = part.written;
}
