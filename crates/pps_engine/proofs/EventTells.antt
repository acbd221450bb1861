-- The records that what is done tells, and the handles that it closes.
use Rattle.std.proofs.Common.{◌≡◌, ℕ, Bool, true, false, List, [], ◌∷◌, ◌++◌, Option, Some, None, refl, sym, ap, ◌∙◌}
use Rattle.std.specs.Prelude.{IsSomeAnd}
use Rattle.std.specs.Option.{option_map_or}
use Rattle.std.specs.List.{flat_map, cons_option}
use Rattle.std.proofs.lemmas.List.Elements.{filter_map-append}
use Rattle.pps_types.specs.Plan as planning
use Rattle.pps_types.specs.Plan.{Move, Creates, AppendsRecord as HappensTo, Queues, creation}
use Rattle.service_laws.specs.Told.{entry_told, entries_told}
use Rattle.pps_engine.specs.SettlingTold.{handle_closed, handles_closed}
use Rattle.name_table.specs.Standing.{Placed, placed_at}
use Rattle.whole_texts.specs.declared.answer.Effect.{Effect}
use Rattle.whole_texts.specs.declared.answer.Effect.TheVariants.{CatchesUp, Advances, Parks, Stays}
use Rattle.whole_texts.specs.Answered as reads
use Rattle.service_state.specs.declared.beginning.Beginning.{Beginning}
use Rattle.service_state.specs.declared.beginning.Beginning.TheVariants.{Closes as BeginningCloses, AppendsRecord}
use Rattle.service_state.specs.declared.creating.Replacement.{Replacement}
use Rattle.service_state.specs.Beginning.{moves_of, entries_in}
use Rattle.service_state.specs.Moves.{closing}
use Rattle.service_state.specs.Objects.{CanReplace, replacing_object}
use Rattle.service_state.specs.Tables.{Tabled}
use Rattle.path_requests.specs.declared.planned_open.Opens.{Opens as OpensAs}
use Rattle.path_requests.specs.declared.planned_open.Opens.TheVariants.{OnFound, Creating, Replacing}
use Rattle.path_requests.specs.Planned as opens
use Rattle.pps_engine.specs.declared.doing.Doing.{Doing}
use Rattle.pps_engine.specs.declared.doing.Doing.TheVariants.{Nothing, Begins, BeginsWith, Leaves, Opens, Attaches, Closes, Reads, Arms, Takes, Makes, Removes}
use Rattle.pps_engine.specs.Doing.{moves_in, CanDo}
use Rattle.pps_engine.specs.EventTold.{closes_in, entries_opened, closes_opened, entries_of, closes_of}

-- ---- the steps that an event begins with

closing_tells : (conn handle : ℕ) (parked : Bool) → entries_told (closing conn handle parked) ≡ []
closing_tells conn handle true = refl
closing_tells conn handle false = refl

closing_closes : (conn handle : ℕ) (parked : Bool) → handles_closed (closing conn handle parked) ≡ handle ∷ []
closing_closes conn handle true = refl
closing_closes conn handle false = refl

begins_tell : (bs : List Beginning) → entries_told (flat_map moves_of bs) ≡ entries_in bs
begins_tell [] = refl
begins_tell (BeginningCloses conn handle parked ∷ bs) = filter_map-append entry_told (closing conn handle parked) (flat_map moves_of bs) ∙ (λ i. closing_tells conn handle parked i ++ begins_tell bs i)
begins_tell (AppendsRecord told ∷ bs) = ap (λ es. told.entry ∷ es) (begins_tell bs)

begins_close : (bs : List Beginning) → handles_closed (flat_map moves_of bs) ≡ closes_in bs
begins_close [] = refl
begins_close (BeginningCloses conn handle parked ∷ bs) = filter_map-append handle_closed (closing conn handle parked) (flat_map moves_of bs) ∙ (λ i. closing_closes conn handle parked i ++ begins_close bs i)
begins_close (AppendsRecord told ∷ bs) = begins_close bs

-- one step alone
step_tells : (b : Beginning) → entries_told (moves_of b) ≡ entries_in (b ∷ [])
step_tells (BeginningCloses conn handle parked) = closing_tells conn handle parked
step_tells (AppendsRecord told) = refl

step_closes : (b : Beginning) → handles_closed (moves_of b) ≡ closes_in (b ∷ [])
step_closes (BeginningCloses conn handle parked) = closing_closes conn handle parked
step_closes (AppendsRecord told) = refl

append_none : {X : Type 0} (xs : List X) → xs ++ [] ≡ xs
append_none [] = refl
append_none (x ∷ xs) = ap (λ ys. x ∷ ys) (append_none xs)

behind_tells : (bs : List Beginning) (m : Move) → entry_told m ≡ None → entries_told (flat_map moves_of bs ++ m ∷ []) ≡ entries_in bs
behind_tells bs m none = filter_map-append entry_told (flat_map moves_of bs) (m ∷ []) ∙ (λ i. begins_tell bs i ++ cons_option (none i) []) ∙ append_none (entries_in bs)

behind_closes : (bs : List Beginning) (m : Move) → handle_closed m ≡ None → handles_closed (flat_map moves_of bs ++ m ∷ []) ≡ closes_in bs
behind_closes bs m none = filter_map-append handle_closed (flat_map moves_of bs) (m ∷ []) ∙ (λ i. begins_close bs i ++ cons_option (none i) []) ∙ append_none (closes_in bs)

-- ---- an open

replacing_tells : (t : Tabled) (r : Replacement) (name : Placed → List Move) → ((gone : Placed) → entries_told (name gone) ≡ []) → (o : Option Placed) → IsSomeAnd o (CanReplace r t)
    → entries_told (option_map_or (λ (gone : Placed). HappensTo r.deletion.entry ∷ Creates (replacing_object r gone.object t) ∷ name gone) o []) ≡ r.deletion.entry ∷ r.creation.entry ∷ []
replacing_tells t r name none None some = absurd some
replacing_tells t r name none (Some gone) some = λ i. r.deletion.entry ∷ sym some.record_is i ∷ none gone i

replacing_closes : (t : Tabled) (r : Replacement) (name : Placed → List Move) → ((gone : Placed) → handles_closed (name gone) ≡ []) → (o : Option Placed)
    → handles_closed (option_map_or (λ (gone : Placed). HappensTo r.deletion.entry ∷ Creates (replacing_object r gone.object t) ∷ name gone) o []) ≡ []
replacing_closes t r name none None = refl
replacing_closes t r name none (Some gone) = none gone

opens_tell : (t : Tabled) (o : OpensAs) → opens.IsReady o t → entries_told (opens.moves_of o t) ≡ entries_opened o
opens_tell t (OnFound beginning found opening) ready = behind_tells beginning.items _ refl
opens_tell t (Creating object opening) ready = ap (λ e. e ∷ []) (sym ready.creates.record_is)
opens_tell t (Replacing replacement opening) ready = replacing_tells t replacement (λ gone. opens.opens_new t gone.object.name opening) (λ gone. refl) (placed_at replacement.object t.names) ready.replaces

opens_close : (t : Tabled) (o : OpensAs) → handles_closed (opens.moves_of o t) ≡ closes_opened o
opens_close t (OnFound beginning found opening) = behind_closes beginning.items _ refl
opens_close t (Creating object opening) = refl
opens_close t (Replacing replacement opening) = replacing_closes t replacement (λ gone. opens.opens_new t gone.object.name opening) (λ gone. refl) (placed_at replacement.object t.names)

-- ---- whatever is done

reads_tell : (handle : ℕ) (e : Effect) → entries_told (reads.moves_of handle e) ≡ []
reads_tell handle CatchesUp = refl
reads_tell handle (Advances count) = refl
reads_tell handle (Parks size) = refl
reads_tell handle Stays = refl

reads_close : (handle : ℕ) (e : Effect) → handles_closed (reads.moves_of handle e) ≡ []
reads_close handle CatchesUp = refl
reads_close handle (Advances count) = refl
reads_close handle (Parks size) = refl
reads_close handle Stays = refl

pub entries_are : (t : Tabled) (d : Doing) → CanDo d t → entries_told (moves_in d t) ≡ entries_of d
entries_are t Nothing can = refl
entries_are t (Begins beginning) can = begins_tell beginning.items
entries_are t (BeginsWith beginning) can = step_tells beginning
entries_are t (Leaves beginning conn) can = behind_tells beginning.items (planning.Leaves conn) refl
entries_are t (Opens o) can = opens_tell t o.value can
entries_are t (Attaches conn outbox) can = refl
entries_are t (Closes conn handle parked) can = closing_tells conn handle parked
entries_are t (Reads conn handle effect) can = reads_tell handle effect
entries_are t (Arms conn handle pulse) can = refl
entries_are t (Takes conn) can = refl
entries_are t (Makes path) can = refl
entries_are t (Removes directory) can = refl

pub closes_are : (t : Tabled) (d : Doing) → handles_closed (moves_in d t) ≡ closes_of d
closes_are t Nothing = refl
closes_are t (Begins beginning) = begins_close beginning.items
closes_are t (BeginsWith beginning) = step_closes beginning
closes_are t (Leaves beginning conn) = behind_closes beginning.items (planning.Leaves conn) refl
closes_are t (Opens o) = opens_close t o.value
closes_are t (Attaches conn outbox) = refl
closes_are t (Closes conn handle parked) = closing_closes conn handle parked
closes_are t (Reads conn handle effect) = reads_close handle effect
closes_are t (Arms conn handle pulse) = refl
closes_are t (Takes conn) = refl
closes_are t (Makes path) = refl
closes_are t (Removes directory) = refl
