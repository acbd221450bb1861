-- What follows for a handle is what its open and its records tell, whatever it has seen.
use Rattle.std.proofs.Common.{◌≡◌, ℕ, Bool, true, false, cond, not, List, [], ◌∷◌, Option, Some, None, Ok, Err, ◌++◌, refl, sym, ap, ◌∙◌}
use Rattle.std.specs.Prelude.{filter, is_some}
use Rattle.std.specs.Option.{option_map_or}
use Rattle.pps_types.specs.Reading.{OpenHandle, Member, visible, everything_of, whole_answer, owed_answer, Answer, Everything, Blocks, Needs, TargetGone, Waits, Nothing}
use Rattle.pps_types.specs.Rests.{Progress}
use Rattle.pps_types.specs.Owed.{is_past_limit}
use Rattle.pps_types.specs.declared.refusal.Refusal.TheVariants.{TooSmall}
use Rattle.pps_types.specs.declared.outcome.Item.TheVariants.{Pulse as PulseItem, ReadDone}
use Rattle.pps_types.specs.Plan.{CatchesUp, Advances, Parks, Arms, Queues, fired, late_reply}
use Rattle.pps_types.specs.SettlingReplies.{gives_everything, late_answer, pulse_and_reply}
use Rattle.sub_reader.specs.declared.opening.Opening.{Opening}
use Rattle.sub_reader.specs.declared.opening.Pulse.{Pulse}
use Rattle.sub_reader.specs.Opened.{opened, armed_pulse}
use Rattle.sub_reader.specs.Blocks.{blocks_given}
use Rattle.whole_texts.specs.Replied.{reply_to}
use Rattle.whole_texts.specs.Woken.{Waiting, Behind, IsOpened, IsWoken, Shows, ShowsWaiting}
use Rattle.whole_texts.specs.Followed.{fired_by}

-- ---- the late reply

module _ (b : Behind) (h : OpenHandle Progress) (dead : Bool) (members : List Member) (size : ℕ) where
  everything : Bool → List Member → Answer
  everything alive ms = whole_answer (everything_of h.kind h.options.filter (is_past_limit h (filter (visible h) b.entries)) alive ms) size

  shown : Shows b h dead members → reply_to h b.entries b.alive b.members size ≡ late_answer h b.entries dead members size
  unfolding everything
  shown shows = by (gives_everything h b.entries) refl
    where
      by : (g : Bool) → gives_everything h b.entries ≡ g → reply_to h b.entries b.alive b.members size ≡ late_answer h b.entries dead members size
      by true is = λ i. cond (gives_everything h b.entries) (everything ((shows is).0 i) ((shows is).1 i)) (owed_answer h.options.wait (blocks_given h b.entries) false size)
      by false is =
          ap (λ g. cond g (everything b.alive b.members) (owed_answer h.options.wait (blocks_given h b.entries) false size)) is
          ∙ sym (ap (λ g. cond g (everything (not dead) members) (owed_answer h.options.wait (blocks_given h b.entries) false size)) is)

  pub reply-same : (t : ℕ) (o : Opening) → IsOpened t o h → Shows b h dead members
      → reply_to (opened t [] o) b.entries b.alive b.members size ≡ late_answer h b.entries dead members size
  reply-same t o is shows = ap (λ (x : OpenHandle (Unit {0})). reply_to x b.entries b.alive b.members size) (sym is) ∙ shown shows

-- ---- moves

-- the moves of a pulse, and of a late reply, name the handle and its connection alone
fired-same : (o : Opening) (armed : Option Pulse) (h : OpenHandle Progress) → h.number ≡ o.number → h.connection ≡ o.connection → h.armed ≡ armed_pulse armed → fired h ≡ fired_by o armed
fired-same o armed h number connection is =
    (λ i. option_map_or (λ pulse. Arms (number i) None ∷ Queues (connection i) (PulseItem pulse.0 pulse.1) ∷ []) (is i) [])
    ∙ by armed
  where
    by : (a : Option Pulse) → option_map_or (λ pulse. Arms o.number None ∷ Queues o.connection (PulseItem pulse.0 pulse.1) ∷ []) (armed_pulse a) [] ≡ fired_by o a
    by None = refl
    by (Some p) = refl

reply-moves : (o : Opening) (h : OpenHandle Progress) → h.number ≡ o.number → h.connection ≡ o.connection → (a : Answer) → late_reply h a ≡ late_reply (opened 0 [] o) a
reply-moves o h number connection (Everything text) = λ i. CatchesUp (number i) ∷ Parks (number i) None ∷ Queues (connection i) (ReadDone (number i) (Ok text)) ∷ []
reply-moves o h number connection (Blocks count text) = λ i. Advances (number i) count ∷ Parks (number i) None ∷ Queues (connection i) (ReadDone (number i) (Ok text)) ∷ []
reply-moves o h number connection (Needs need) = λ i. Parks (number i) None ∷ Queues (connection i) (ReadDone (number i) (Err (TooSmall need))) ∷ []
reply-moves o h number connection TargetGone = refl
reply-moves o h number connection Waits = refl
reply-moves o h number connection Nothing = refl

module _ (w : Waiting) (b : Behind) (h : OpenHandle Progress) (dead : Bool) (members : List Member) (is : IsWoken w h) where
  number : h.number ≡ w.opening.number
  number = ap (λ (x : OpenHandle (Unit {0})). x.number) is.opened

  connection : h.connection ≡ w.opening.connection
  connection = ap (λ (x : OpenHandle (Unit {0})). x.connection) is.opened

  -- where a read of that size waits
  pub follows-some : (size : ℕ) → w.parked ≡ Some size
      → fired_by w.opening w.armed ++ late_reply (opened 0 [] w.opening) (late_answer h b.entries dead members size) ≡ pulse_and_reply h b.entries dead members
  follows-some size some = sym (
      (λ i. fired-same w.opening w.armed h number connection is.armed i ++ option_map_or (λ size. late_reply h (late_answer h b.entries dead members size)) ((is.parked ∙ some) i) [])
      ∙ ap (λ ms. fired_by w.opening w.armed ++ ms) (reply-moves w.opening h number connection (late_answer h b.entries dead members size)))

  -- and so the members of the target are told
  pub shows-some : (size : ℕ) → w.parked ≡ Some size → ShowsWaiting b h dead members → Shows b h dead members
  shows-some size some shows = shows (ap is_some (is.parked ∙ some))
