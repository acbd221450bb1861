-- Runs that agree: another client's message to the server is in one of them alone, and a message for that client.
use Rattle.std.proofs.Common.{◌≡◌, ℕ, true, false, List, [], ◌∷◌, Ok, Err, refl}
use Rattle.std.specs.Prelude.{codes}
use Rattle.std.specs.Fmt.{digits}
use Rattle.pps_types.specs.declared.event.Event.{Event}
use Rattle.pps_types.specs.declared.event.Request.{Request}
use Rattle.pps_types.specs.declared.event.Request.TheVariants.{Attach, Open as OpenRequest, Read, Write}
use Rattle.pps_types.specs.declared.event.Mode.{Mode}
use Rattle.pps_types.specs.declared.outcome.Outcome.TheVariants.{Wrote, Data}
use Rattle.pps_types.specs.declared.refusal.Refusal.TheVariants.{Backlogged}
use Rattle.pps_types.specs.Machine.{Machine, IsMachine, machine, start, step}
use Rattle.service_laws.specs.Laws.{MeetsAlike}
use Rattle.service_laws.proofs.Private.{private-traffic}
use Rattle.service_laws.proofs.Law.{start-made, step-made}
use Rattle.pps_types.specs.Runs.{Answered, IsRun, after, replies_to}
use Rattle.pps_types.specs.Privacy.{Agree, shared_events, is_quiet}

abbrev by : ℕ → Request → Event
by conn request = record { conn = conn; request = request }

abbrev both : Mode
both = record { r = true; w = true; c = true; t = false }

-- a server by connection 1, and clients by 2 and 3
abbrev pub opened : Machine
opened = after (start 1 16) (by 1 Attach ∷ by 2 Attach ∷ by 3 Attach ∷ by 1 (OpenRequest both (codes "/o?server")) ∷ by 2 (OpenRequest both (codes "/o")) ∷ by 3 (OpenRequest both (codes "/o")) ∷ [])

abbrev wrote : Event → ℕ → Answered
wrote e n = record { event = e; reply = Ok (Wrote n) }

abbrev pub first : List Answered
first = wrote (by 3 (Write 3 (codes "a::1\n"))) 5 ∷ wrote (by 1 (Write 1 (codes "@o.3\nb::2\n"))) 10 ∷ wrote (by 2 (Write 2 (codes "c::3\n"))) 5 ∷ []

abbrev pub second : List Answered
second = wrote (by 2 (Write 2 (codes "c::3\n"))) 5 ∷ []

first-runs : IsRun opened first
unfolding digits machine
first-runs = (record { replied = refl; allowed = λ e. absurd cc }, (record { replied = refl; allowed = λ e. absurd cc }, (record { replied = refl; allowed = λ e. absurd cc }, tt)))

second-runs : IsRun opened second
unfolding digits machine
second-runs = (record { replied = refl; allowed = λ e. absurd cc }, tt)

-- they agree for connection 2
pub they-agree : Agree 2 opened first second
unfolding digits machine
they-agree = record { same_events = refl; first_quiet = refl; second_quiet = refl }

after-made : (es : List Event) (m : Machine) → IsMachine m → IsMachine (after m es)
after-made [] m made = made
after-made (e ∷ es) m made = after-made es (step m e).1 (step-made m made e)

-- so connection 2 can't tell them apart
pub they-meet-alike : MeetsAlike 2 opened first second
they-meet-alike =
    let stands = after-made (by 1 Attach ∷ by 2 Attach ∷ by 3 Attach ∷ by 1 (OpenRequest both (codes "/o?server")) ∷ by 2 (OpenRequest both (codes "/o")) ∷ by 3 (OpenRequest both (codes "/o")) ∷ []) (start 1 16) (start-made 1 16) in
    private-traffic 2 opened stands first second first-runs second-runs they-agree

-- ---- why a write that is Backlogged is left out

-- the same with queues of one message, where the server has read who opened
abbrev pub narrow : Machine
narrow = after (start 1 1) (by 1 Attach ∷ by 2 Attach ∷ by 3 Attach ∷ by 1 (OpenRequest both (codes "/o?server")) ∷ by 2 (OpenRequest both (codes "/o")) ∷ by 3 (OpenRequest both (codes "/o")) ∷ by 1 (Read 1 100) ∷ [])

-- the other client's message takes the place of this one's in the server's short read
abbrev pub crowded : List Answered
crowded =
    wrote (by 3 (Write 3 (codes "a::1\n"))) 5 ∷ wrote (by 2 (Write 2 (codes "c::3\n"))) 5 ∷ record { event = by 1 (Read 1 12); reply = Ok (Data (codes "@o.3\na::1\n")) }
    ∷ record { event = by 2 (Write 2 (codes "d::4\n")); reply = Err (Backlogged 1) } ∷ []

abbrev pub calm : List Answered
calm = wrote (by 2 (Write 2 (codes "c::3\n"))) 5 ∷ record { event = by 1 (Read 1 12); reply = Ok (Data (codes "@o.2\nc::3\n")) } ∷ wrote (by 2 (Write 2 (codes "d::4\n"))) 5 ∷ []

crowded-runs : IsRun narrow crowded
unfolding digits machine
crowded-runs = (record { replied = refl; allowed = λ e. absurd cc }, (record { replied = refl; allowed = λ e. absurd cc }, (record { replied = refl; allowed = λ e. absurd cc }, (record { replied = refl; allowed = λ e. absurd cc }, tt))))

calm-runs : IsRun narrow calm
unfolding digits machine
calm-runs = (record { replied = refl; allowed = λ e. absurd cc }, (record { replied = refl; allowed = λ e. absurd cc }, (record { replied = refl; allowed = λ e. absurd cc }, tt)))

-- but for that, these agree for connection 2
pub alike-but-for-a-full-queue : (shared_events 2 narrow crowded ≡ shared_events 2 narrow calm) × (is_quiet 2 narrow calm ≡ true) × (is_quiet 2 narrow crowded ≡ false)
unfolding digits machine
alike-but-for-a-full-queue = (refl, refl, refl)

pub told-apart : replies_to 2 crowded ≡ replies_to 2 calm → ⊥
told-apart e = cc
