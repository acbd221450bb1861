-- The lines of a text, served from its front, and of an input that comes in pieces.
use Rattle.std.proofs.Common.{◌≡◌, ◌+◌, ◌-◌, ℕ, length, min, take, List, [], ◌∷◌, ◌++◌, Option, Some, None, Result, Ok, Err, append_assoc, append-nil, refl, sym, ap, subst, ◌∙◌, arith}
use Rattle.std.proofs.lemmas.List.{length-append}
use Rattle.std.proofs.Math.Seq.{take-append_seam}
use Rattle.std.specs.Io.KnownBytes.{Appends, Consumes, IsAtEnd}
use Rattle.std.specs.Result.{MatchResult}
use Rattle.pps_types.specs.Content.{Content}
use Rattle.pps_types.specs.Bytes.{split_at_first, pieces}
use Rattle.pps_types.specs.Text.{lines_of, without_empty_end}
use Rattle.pps_types.specs.Device.{last_count, counted_once_more}
use Rattle.pps_types.specs.Writing.{SendsPart}
use Rattle.pps_types.proofs.KnownBytes.{Consumes-none, Consumes-then, Consumes-same, keeps_itself}
use Rattle.pps_types.proofs.Writing.{holds-part, holds-sent}
use Rattle.pps_types.proofs.Cuts.{pieces-first, pieces-one}
use Rattle.pps_script.specs.declared.manner.Manner.{Manner}
use Rattle.pps_script.specs.declared.fault.ScriptFault.{ScriptFault}
use Rattle.pps_script.specs.declared.fault.ScriptFault.TheVariants.{BadLine, OutOfMemory, ReadFault, WriteFault}
use Rattle.script_text.specs.Script.{whole_lines, answers_of}
use Rattle.pps_script.specs.Lines.{ServesLines, SendsFirst, EndsLines, IsPart, ServesText, EndsText, ServesInput, ServesWhole, EndsInput, RunsInput}
use Rattle.script_text.proofs.Pieces.{pieces-behind, none-behind, pieces-on, pieces-some, last-lines}
use Rattle.pps_script.specs.BadLines.{passed, ReportsEach, ReportsFirst, ReportsLines}
use Rattle.pps_script.proofs.Reported.{passed-append, whole-of, lines-front, each-none, first-lines-more, lines-then}
use Rattle.pps_script.proofs.Lines.{serves-none, serves-then, ends-then, ends-more, held-of, serves-shown, ends-shown}

-- ---- one text

-- some lines are served, and the others are those of the rest
pub record RunsOn (how : Manner) (count now : ℕ) (before : Option (List ℕ)) (held : List ℕ) (after : Option (List ℕ)) (left : List ℕ) (old new : Content)
    (text rest : List ℕ) : Type 0 where
  pub lines : List (List ℕ)
  pub parts : pieces 10 text ≡ lines ++ pieces 10 rest
  pub serves : ServesLines how before held after left old new lines None
  pub counted : now ≡ min (count + length lines) last_count

pub runs-start : (how : Manner) (count : ℕ) (a : Option (List ℕ)) (held : List ℕ) (c : Content) (text : List ℕ) → count ≡ min count last_count
    → RunsOn how count count a held a held c c text text
runs-start how count a held c text counted = record {
  lines = [];
  parts = refl;
  serves = serves-none how a held c;
  counted = omega (arith, counted);
}

module _ (how : Manner) (count now : ℕ) (a b c : Option (List ℕ)) (held middle left : List ℕ) (old next new : Content) (text rest line behind : List ℕ)
    (cut : Some (line, behind) ≡ split_at_first 10 rest) (on : RunsOn how count now a held b middle old next text rest) where
  -- the lines so far, this one, and the others
  these : pieces 10 text ≡ (on.lines ++ line ∷ []) ++ pieces 10 behind
  these = on.parts ∙ ap (λ others. on.lines ++ others) (sym (pieces-first 10 rest line behind cut)) ∙ sym (append_assoc on.lines (line ∷ []) (pieces 10 behind))

  pub runs-line : (more : ℕ) → more ≡ counted_once_more now → ServesLines how b middle c left next new (line ∷ []) None
      → RunsOn how count more a held c left old new text behind
  runs-line more counted one = record {
    lines = on.lines ++ line ∷ [];
    parts = these;
    serves = serves-then how a b c held middle left old next new on.lines on.serves (line ∷ []) None one;
    counted = omega (arith, counted, on.counted, length-append on.lines (line ∷ []));
  }

  pub runs-stop : (fault : ScriptFault) → EndsLines how now b middle c left next new (line ∷ []) fault
      → EndsText how count a held c left old new text fault
  runs-stop fault ends = record {
    lines = on.lines ++ line ∷ [];
    first = record { rest = pieces 10 behind; some = pieces-some 10 behind; parts = these };
    ends = ends-then how a b c held middle left old next new on.lines on.serves count now (line ∷ []) fault on.counted ends;
  }

pub runs-end : (how : Manner) (count now : ℕ) (a b : Option (List ℕ)) (held left : List ℕ) (old new : Content) (text rest : List ℕ) → None ≡ split_at_first 10 rest
    → RunsOn how count now a held b left old new text rest → ServesText how count now a held b left old new text rest
runs-end how count now a b held left old new text rest none on = record {
  lines = on.lines;
  parts = on.parts ∙ ap (λ others. on.lines ++ others) (sym (pieces-one 10 rest none));
  serves = on.serves;
  counted = on.counted;
}

-- ---- a piece behind a part

-- the part that is left could not be kept
pub kept-not : (how : Manner) (count more : ℕ) (a b : Option (List ℕ)) (held left : List ℕ) (old new : Content) (text part : List ℕ)
    → ServesText how count more a held b left old new text part → EndsText how count a held b left old new text OutOfMemory
kept-not how count more a b held left old new text part t = record {
  lines = t.lines;
  first = record { rest = part ∷ []; some = λ e. let h = e in cc; parts = t.parts };
  ends = held-of how a b held left old new t.lines t.serves;
}

-- nothing of a text was served
pub none-served : (how : Manner) (count : ℕ) (a : Option (List ℕ)) (held : List ℕ) (c : Content) (text : List ℕ) → EndsText how count a held a held c c text OutOfMemory
none-served how count a held c text = record {
  lines = [];
  first = record { rest = pieces 10 text; some = pieces-some 10 text; parts = refl };
  ends = held-of how a a held held c c [] (serves-none how a held c);
}

pub feeds-part : (how : Manner) (count : ℕ) (a : Option (List ℕ)) (held : List ℕ) (c : Content) (part piece : List ℕ) → count ≡ min count last_count → IsPart part → None ≡ split_at_first 10 piece
    → ServesText how count count a held a held c c (part ++ piece) (part ++ piece)
feeds-part how count a held c part piece counted is none = record {
  lines = [];
  parts = sym (pieces-one 10 (part ++ piece) (sym (none-behind 10 part piece is (sym none))));
  serves = serves-none how a held c;
  counted = omega (arith, counted);
}

module _ (how : Manner) (count now : ℕ) (a b c : Option (List ℕ)) (held middle left : List ℕ) (old next new : Content) (part piece whole line behind : List ℕ)
    (is : IsPart part) (cut : Some (line, behind) ≡ split_at_first 10 piece) (made : whole ≡ part ++ line) where
  -- the line that the piece made whole, and the others
  both : pieces 10 (part ++ piece) ≡ whole ∷ pieces 10 behind
  both = pieces-behind 10 part piece line (pieces 10 behind) is (sym (pieces-first 10 piece line behind cut)) ∙ ap (λ first. first ∷ pieces 10 behind) (sym made)

  pub feeds-bad : (fault : ScriptFault) → EndsLines how count a held b middle old next (whole ∷ []) fault → EndsText how count a held b middle old next (part ++ piece) fault
  feeds-bad fault ends = record {
    lines = whole ∷ [];
    first = record { rest = pieces 10 behind; some = pieces-some 10 behind; parts = both };
    ends = ends;
  }

  pub feeds-line : (more : ℕ) (rest : List ℕ) → now ≡ counted_once_more count → ServesLines how a held b middle old next (whole ∷ []) None
      → ServesText how now more b middle c left next new behind rest → ServesText how count more a held c left old new (part ++ piece) rest
  feeds-line more rest counted one t = record {
    lines = whole ∷ t.lines;
    parts = both ∙ ap (λ others. whole ∷ others) t.parts;
    serves = serves-then how a b c held middle left old next new (whole ∷ []) one t.lines None t.serves;
    counted = omega (arith, counted, t.counted);
  }

  pub feeds-stop : (fault : ScriptFault) → now ≡ counted_once_more count → ServesLines how a held b middle old next (whole ∷ []) None
      → EndsText how now b middle c left next new behind fault → EndsText how count a held c left old new (part ++ piece) fault
  feeds-stop fault counted one t = record {
    lines = whole ∷ t.lines;
    first = record { rest = t.first.rest; some = t.first.some; parts = both ∙ ap (λ others. whole ∷ others) t.first.parts };
    ends = ends-then how a b c held middle left old next new (whole ∷ []) one count now t.lines fault (omega (arith, counted)) t.ends;
  }

-- the end of the input is one of its ends
pub ends-input : (X : Type 0) (how : Manner) (Reported : List ℕ → Type 0) (from to before after : Option (List ℕ)) (left : List ℕ) (old new : Content) (fault : ScriptFault)
    → EndsInput how Reported from to before after left old new fault → RunsInput {X = X} how Reported from to before after left old new (Err fault)
ends-input X how Reported from to before after left old new (BadLine line) e = e
ends-input X how Reported from to before after left old new OutOfMemory e = e
ends-input X how Reported from to before after left old new WriteFault e = e
ends-input X how Reported from to before after left old new ReadFault e = absurd e.ends

-- ---- all pieces of an input

-- what was read so far is served, but for the part of a line at its end
pub record SoFar {B : Type 0} (reports : B → ℕ → B → Type 0) (first now : B) (how : Manner) (from to before after : Option (List ℕ)) (left : List ℕ) (old new : Content) (count : ℕ)
    (part : List ℕ) : Type 0 where
  pub text : List ℕ
  pub read : Consumes from to text
  pub serves : ServesText how 0 count before [] after left old new text part
  pub reported : ReportsEach reports first now (passed how.patient 0 serves.lines)

pub so_far-none : {B : Type 0} (reports : B → ℕ → B → Type 0) (first : B) (how : Manner) (from before : Option (List ℕ)) (c : Content) (count : ℕ) (part : List ℕ) → count ≡ 0 → part ≡ []
    → SoFar reports first first how from from before before [] c c count part
so_far-none reports first how from before c count part zero none = record {
  text = [];
  read = Consumes-none from from (keeps_itself from);
  serves = record {
    lines = [];
    parts = ap (λ p. p ∷ []) (sym none);
    serves = serves-none how before [] c;
    counted = omega (arith, zero);
  };
  reported = each-none reports how.patient 0 first;
}

module _ {B : Type 0} (reports : B → ℕ → B → Type 0) (first now : B) (how : Manner) (from here before middle : Option (List ℕ)) (left : List ℕ) (old next : Content) (count : ℕ) (part : List ℕ)
    (far : SoFar reports first now how from here before middle left old next count part) where
  -- all that is held is sent
  pub so_far-sent : (after : Option (List ℕ)) (none : List ℕ) → Appends middle after left → none ≡ [] → SoFar reports first now how from here before after none old next count part
  so_far-sent after none sends is = record {
    text = far.text;
    read = far.read;
    serves = record {
      lines = far.serves.lines;
      parts = far.serves.parts;
      serves = record {
        answered = far.serves.serves.answered;
        said = far.serves.serves.said;
        seen = far.serves.serves.seen;
        written = record {
          sent = answers_of how.show far.serves.serves.answered;
          written = holds-sent before middle after left _ far.serves.serves.written sends;
          parts = sym (append-nil (answers_of how.show far.serves.serves.answered)) ∙ ap (λ t. answers_of how.show far.serves.serves.answered ++ t) (sym is);
        };
      };
      counted = far.serves.counted;
    };
    reported = far.reported;
  }

  all-lines : (more : List ℕ) → pieces 10 (far.text ++ more) ≡ far.serves.lines ++ pieces 10 (part ++ more)
  all-lines more = pieces-on 10 far.text far.serves.lines part more far.serves.parts

  -- the lines of what was read, if it ended here
  lines-here : lines_of far.text ≡ far.serves.lines ++ without_empty_end (part ∷ [])
  lines-here = ap without_empty_end far.serves.parts ∙ last-lines far.serves.lines (part ∷ []) (λ e. let h = e in cc)

  -- the bad ones of these are those of the lines so far, and of others
  passed-here : (others : List (List ℕ)) → passed how.patient 0 (far.serves.lines ++ others) ≡ passed how.patient 0 far.serves.lines ++ passed how.patient count others
  passed-here others = passed-append how.patient 0 count far.serves.lines others (omega arith) far.serves.counted

  -- or a part of it
  pub so_far-unsent : (to after : Option (List ℕ)) (other : List ℕ) → to ≡ here → SendsPart middle after left
      → EndsInput how (ReportsEach reports first now) from to before after other old next WriteFault
  so_far-unsent to after other same sends = record {
    text = far.text;
    read = subst (λ t. Consumes from t far.text) (sym same) far.read;
    ends = subst (λ ls. SendsFirst how before [] after old next ls) (sym lines-here)
        (ends-more how 0 before after [] left old next far.serves.lines (without_empty_end (part ∷ [])) WriteFault
        record {
          answered = far.serves.serves.answered;
          more = [];
          said = ap (λ s. s.events) far.serves.serves.said ∙ sym (append-nil _);
          seen = far.serves.serves.seen;
          written = subst (λ t. SendsPart before after t) (append-nil _)
              (holds-part before middle after left _ [] far.serves.serves.written (subst (λ t. SendsPart middle after t) (sym (append-nil left)) sends));
        });
    numbers = passed how.patient 0 far.serves.lines;
    others = passed how.patient count (without_empty_end (part ∷ []));
    bad = ap (λ (ls : List (List ℕ)). passed how.patient 0 ls) lines-here ∙ passed-here (without_empty_end (part ∷ []));
    reported = far.reported;
  }

  -- the same input, and as much that is written and held
  pub so_far-moved : (here' middle' : Option (List ℕ)) (left' : List ℕ) → here' ≡ here → middle' ≡ middle → left' ≡ left
      → SoFar reports first now how from here' before middle' left' old next count part
  so_far-moved here' middle' left' h m l =
      subst (λ x. SoFar reports first now how from x before middle' left' old next count part) (sym h)
      (subst (λ x. SoFar reports first now how from here before x left' old next count part) (sym m) (subst (λ x. SoFar reports first now how from here before middle x old next count part) (sym l) far))

  module _ (to after : Option (List ℕ)) (rest : List ℕ) (new : Content) (piece : List ℕ) (reads : Consumes here to piece) where
    read-on : Consumes from to (far.text ++ piece)
    read-on = Consumes-then from here to far.text piece far.read reads

    pub so_far-more : (more : ℕ) (others : List ℕ) (then : B) → ServesText how count more middle left after rest next new (part ++ piece) others
        → ReportsEach reports now then (passed how.patient count (whole_lines (part ++ piece)))
        → SoFar reports first then how from to before after rest old new more others
    so_far-more more others then t reported = record {
      text = far.text ++ piece;
      read = read-on;
      serves = record {
        lines = far.serves.lines ++ t.lines;
        parts = all-lines piece ∙ ap (λ behind. far.serves.lines ++ behind) t.parts ∙ sym (append_assoc far.serves.lines t.lines (others ∷ []));
        serves = serves-then how before middle after [] left rest old next new far.serves.lines far.serves.serves t.lines None t.serves;
        counted = omega (arith, t.counted, far.serves.counted, length-append far.serves.lines t.lines);
      };
      reported = lines-then {X = Unit {0}} reports how.patient 0 count first now then far.serves.lines t.lines (Ok tt) (omega arith) far.serves.counted far.reported
          (subst (λ (ls : List (List ℕ)). ReportsEach reports now then (passed how.patient count ls)) (whole-of (part ++ piece) others t.lines t.parts) reported);
    }

    pub so_far-stop : (fault : ScriptFault) (then : B) → EndsText how count middle left after rest next new (part ++ piece) fault
        → ReportsFirst reports now then (passed how.patient count (whole_lines (part ++ piece)))
        → EndsInput how (ReportsEach reports first then) from to before after rest old new fault
    so_far-stop fault then t reported = record {
      text = far.text ++ piece;
      read = read-on;
      ends = subst (λ ls. EndsLines how 0 before [] after rest old new ls fault) (sym these)
          (ends-more how 0 before after [] rest old new (far.serves.lines ++ t.lines) (without_empty_end t.first.rest) fault
          (ends-then how before middle after [] left rest old next new far.serves.lines far.serves.serves 0 count t.lines fault far.serves.counted t.ends));
      numbers = those.up_to.first;
      others = those.left;
      bad = those.up_to.parts;
      reported = those.up_to.each;
    }
      where
        these : lines_of (far.text ++ piece) ≡ (far.serves.lines ++ t.lines) ++ without_empty_end t.first.rest
        these = ap without_empty_end (all-lines piece ∙ ap (λ behind. far.serves.lines ++ behind) t.first.parts ∙ sym (append_assoc far.serves.lines t.lines t.first.rest))
            ∙ last-lines (far.serves.lines ++ t.lines) t.first.rest t.first.some

        -- the whole lines come first
        there : (lines : List (List ℕ)) × (lines_of (far.text ++ piece) ≡ (far.serves.lines ++ whole_lines (part ++ piece)) ++ lines)
        there =
            let front = lines-front (pieces 10 (part ++ piece)) in (
              front.0,
              ap without_empty_end (all-lines piece) ∙ last-lines far.serves.lines (pieces 10 (part ++ piece)) (pieces-some 10 (part ++ piece))
                  ∙ ap (λ (ls : List (List ℕ)). far.serves.lines ++ ls) front.1 ∙ sym (append_assoc far.serves.lines (whole_lines (part ++ piece)) front.0),
            )

        those : ReportsFirst reports first then (passed how.patient 0 (lines_of (far.text ++ piece)))
        those =
            subst (λ (ls : List (List ℕ)). ReportsFirst reports first then (passed how.patient 0 ls)) (sym there.1)
            (first-lines-more reports how.patient 0 first then (far.serves.lines ++ whole_lines (part ++ piece)) there.0 (omega arith)
            (lines-then {X = Unit {0}} reports how.patient 0 count first now then far.serves.lines (whole_lines (part ++ piece)) (Err fault) (omega arith) far.serves.counted far.reported reported))

  -- the end of the input
  pub so_far-end : (to after : Option (List ℕ)) (rest : List ℕ) (new : Content) (then : B) → Consumes here to [] → IsAtEnd to
      → ServesLines how middle left after rest next new (without_empty_end (part ∷ [])) None → ReportsEach reports now then (passed how.patient count (without_empty_end (part ∷ [])))
      → ServesInput how (ReportsEach reports first then) from to before after rest old new
  so_far-end to after rest new then reads at_end last reported = record {
    text = far.text;
    read = Consumes-same from to _ _ (append-nil far.text) (Consumes-then from here to far.text [] far.read reads);
    whole = at_end;
    serves = subst (λ ls. ServesLines how before [] after rest old new ls None) (sym lines-here)
        (serves-then how before middle after [] left rest old next new far.serves.lines far.serves.serves (without_empty_end (part ∷ [])) None last);
    reported = subst (λ (ls : List (List ℕ)). ReportsEach reports first then (passed how.patient 0 ls)) (sym lines-here)
        (lines-then {X = Unit {0}} reports how.patient 0 count first now then far.serves.lines (without_empty_end (part ∷ [])) (Ok tt) (omega arith) far.serves.counted far.reported reported);
  }

  pub so_far-bad : (to after : Option (List ℕ)) (rest : List ℕ) (new : Content) (fault : ScriptFault) (then : B) → Consumes here to []
      → EndsLines how count middle left after rest next new (without_empty_end (part ∷ [])) fault
      → ReportsFirst reports now then (passed how.patient count (without_empty_end (part ∷ []))) → EndsInput how (ReportsEach reports first then) from to before after rest old new fault
  so_far-bad to after rest new fault then reads last reported = record {
    text = far.text;
    read = Consumes-same from to _ _ (append-nil far.text) (Consumes-then from here to far.text [] far.read reads);
    ends = subst (λ ls. EndsLines how 0 before [] after rest old new ls fault) (sym lines-here)
        (ends-then how before middle after [] left rest old next new far.serves.lines far.serves.serves 0 count (without_empty_end (part ∷ [])) fault far.serves.counted last);
    numbers = those.up_to.first;
    others = those.left;
    bad = those.up_to.parts;
    reported = those.up_to.each;
  }
    where
      those : ReportsFirst reports first then (passed how.patient 0 (lines_of far.text))
      those =
          subst (λ (ls : List (List ℕ)). ReportsFirst reports first then (passed how.patient 0 ls)) (sym lines-here)
          (lines-then {X = Unit {0}} reports how.patient 0 count first now then far.serves.lines (without_empty_end (part ∷ [])) (Err fault) (omega arith) far.serves.counted far.reported reported)

  -- no more can be read
  pub so_far-whole : (to : Option (List ℕ)) → Consumes here to [] → left ≡ [] → ServesWhole how (ReportsEach reports first now) from to before middle left old next
  so_far-whole to reads none = record {
    text = far.text;
    read = Consumes-same from to _ _ (append-nil far.text) (Consumes-then from here to far.text [] far.read reads);
    sent = none;
    serves = subst (λ ls. ServesLines how before [] middle left old next ls None) (sym these) far.serves.serves;
    reported = subst (λ (ls : List (List ℕ)). ReportsEach reports first now (passed how.patient 0 ls)) (sym these) far.reported;
  }
    where
      these : whole_lines far.text ≡ far.serves.lines
      these = whole-of far.text part far.serves.lines far.serves.parts

-- ---- the same where whether values are shown stayed as it was

pub text-shown : {count more : ℕ} {a b : Option (List ℕ)} {held left : List ℕ} {old new : Content} {text part : List ℕ} (other how : Manner) → other ≡ how
    → ServesText other count more a held b left old new text part → ServesText how count more a held b left old new text part
text-shown {count} {more} {a} {b} {held} {left} {old} {new} {text} {part} other how same p = subst (λ s. ServesText s count more a held b left old new text part) same p

pub end-shown : {count : ℕ} {a b : Option (List ℕ)} {held left : List ℕ} {old new : Content} {text : List ℕ} {fault : ScriptFault} (other how : Manner) → other ≡ how
    → EndsText other count a held b left old new text fault → EndsText how count a held b left old new text fault
end-shown {count} {a} {b} {held} {left} {old} {new} {text} {fault} other how same p = subst (λ s. EndsText s count a held b left old new text fault) same p

-- a piece after a line that it made whole, whatever became of it
pub feeds-rest : (X : Type 0) (how other : Manner) (count now more : ℕ) (a b c : Option (List ℕ)) (held middle left : List ℕ) (old next new : Content) (part piece whole line behind rest : List ℕ)
    (r : Result X ScriptFault) → IsPart part → Some (line, behind) ≡ split_at_first 10 piece → whole ≡ part ++ line → other ≡ how → now ≡ counted_once_more count
    → ServesLines how a held b middle old next (whole ∷ []) None
    → MatchResult r (λ done. ServesText other now more b middle c left next new behind rest) (λ fault. EndsText other now b middle c left next new behind fault)
    → MatchResult r (λ done. ServesText how count more a held c left old new (part ++ piece) rest) (λ fault. EndsText how count a held c left old new (part ++ piece) fault)
feeds-rest X how other count now more a b c held middle left old next new part piece whole line behind rest (Ok x) is cut made same counted one t =
    feeds-line how count now a b c held middle left old next new part piece whole line behind is cut made more rest counted one (text-shown other how same t)
feeds-rest X how other count now more a b c held middle left old next new part piece whole line behind rest (Err fault) is cut made same counted one t =
    feeds-stop how count now a b c held middle left old next new part piece whole line behind is cut made fault counted one (end-shown other how same t)

-- the last line, if there is one
pub so_far-finish : {B : Type 0} (reports : B → ℕ → B → Type 0) (first now then : B) (X : Type 0) (how other : Manner) (from here before middle : Option (List ℕ)) (left : List ℕ)
    (old next : Content) (count : ℕ) (part : List ℕ) (to after : Option (List ℕ)) (rest : List ℕ) (new : Content) (r : Result X ScriptFault)
    → SoFar reports first now how from here before middle left old next count part → other ≡ how → Consumes here to [] → IsAtEnd to
    → MatchResult r (λ done. ServesLines other middle left after rest next new (without_empty_end (part ∷ [])) None) (λ fault. EndsLines other count middle left after rest next new (without_empty_end (part ∷ [])) fault)
    → ReportsLines reports other.patient count (without_empty_end (part ∷ [])) now then r
    → RunsInput how (ReportsEach reports first then) from to before after rest old new r
so_far-finish reports first now then X how other from here before middle left old next count part to after rest new (Ok x) far same reads at_end last reported =
    so_far-end reports first now how from here before middle left old next count part far to after rest new then reads at_end (serves-shown other how same last)
    (subst (λ (m : Manner). ReportsEach reports now then (passed m.patient count (without_empty_end (part ∷ [])))) same reported)
so_far-finish reports first now then X how other from here before middle left old next count part to after rest new (Err fault) far same reads at_end last reported =
    ends-input X how (ReportsEach reports first then) from to before after rest old new fault
    (so_far-bad reports first now how from here before middle left old next count part far to after rest new fault then reads
    (ends-shown count middle after left rest next new (without_empty_end (part ∷ [])) fault other how same last)
    (subst (λ (m : Manner). ReportsFirst reports now then (passed m.patient count (without_empty_end (part ∷ [])))) same reported))
