-- What moves leave of a handle's target, by what stood before them.
use Rattle.std.proofs.Common.{◌≡◌, ℕ, Bool, true, false, cond, not, ◌&&◌, List, [], ◌∷◌, map, refl, ap, ◌∙◌, subst}
use Rattle.std.specs.Prelude.{◌==◌, is_none}
use Rattle.std.proofs.lemmas.Bool.{eqb-true}
use Rattle.std.specs.Option.{option_map_or}
use Rattle.pps_types.specs.Names.{name_cmp, insert_by}
use Rattle.pps_types.specs.History.{line_of}
use Rattle.pps_types.specs.Reading.{OpenHandle, is_directory_kind}
use Rattle.pps_types.specs.Rests.{Progress}
use Rattle.pps_types.specs.Content.{LiveObject, Content, members, member, target_members, target_is_dead}
use Rattle.pps_types.specs.Plan.{Move, Attaches, Leaves, Creates, AppendsRecord, Opens, Closes, CatchesUp, Advances, Parks, Arms, Queues, Takes, MakesDirectory, RemovesDirectory, apply_seen, apply_all_seen}
use Rattle.service_laws.proofs.Holders.{Basis, basis-kept}
use Rattle.service_laws.proofs.Fits.{Fits, AreFit}
use Rattle.service_laws.proofs.Trees.{name-free}
use Rattle.service_laws.specs.Told.{entries_told}
use Rattle.service_laws.specs.SettlingTargets.{NameIsFree, NamesAreFree, members_by, members_after, target_members_after, target_is_dead_after}
use Rattle.pps_types.specs.SettlingReplies.{pulse_and_reply}
use Rattle.service_laws.specs.SettlingMoves.{follows_in, follows}
use Rattle.service_laws.proofs.SettlingObjects.{found-all}
use Rattle.service_laws.proofs.SettlingMembers.{members-happens, members-own, members-other}

members-by : (c : Content) (x : Move) (directory : ℕ) → NameIsFree c x → members (apply_seen x c) directory ≡ members_by directory (members c directory) x
members-by c (Creates o) directory new = by (o.directory == directory) refl
  where
    by : (b : Bool) → (o.directory == directory) ≡ b → members (apply_seen (Creates o) c) directory ≡ cond b (insert_by name_cmp (λ (k : LiveObject). k.object.name) (record { object = o; attributes = [] }) (members c directory)) (members c directory)
    by true e = subst (λ d. members (apply_seen (Creates o) c) d ≡ insert_by name_cmp (λ (k : LiveObject). k.object.name) (record { object = o; attributes = [] }) (members c d)) (eqb-true o.directory directory e) (members-own c o new)
    by false e = members-other c o directory e
members-by c (AppendsRecord e) directory new = members-happens c e directory
members-by c (Attaches conn) directory new = refl
members-by c (Leaves conn) directory new = refl
members-by c (Opens h) directory new = refl
members-by c (Closes number) directory new = refl
members-by c (CatchesUp number) directory new = refl
members-by c (Advances number count) directory new = refl
members-by c (Parks number size) directory new = refl
members-by c (Arms number pulse) directory new = refl
members-by c (Queues conn item) directory new = refl
members-by c (Takes conn) directory new = refl
members-by c (MakesDirectory path) directory new = refl
members-by c (RemovesDirectory number) directory new = refl

-- The members of a directory after moves.
pub members-all : (xs : List Move) (c : Content) (directory : ℕ) → NamesAreFree c xs → members (apply_all_seen xs c) directory ≡ members_after xs directory (members c directory)
members-all [] c directory new = refl
members-all (x ∷ xs) c directory new = members-all xs (apply_seen x c) directory new.1 ∙ ap (members_after xs directory) (members-by c x directory new.0)

-- The target of a handle after moves.
pub target-all : (xs : List Move) (c : Content) (h : OpenHandle Progress) → NamesAreFree c xs → target_members (apply_all_seen xs c) h ≡ target_members_after c xs h
target-all xs c h new = λ i. cond (is_directory_kind h.kind) (map member (members-all xs c h.target new i)) (record { name = h.name; lines = map line_of (option_map_or (λ (o : LiveObject). o.attributes) (found-all xs c h.target i) []) } ∷ [])

pub dead-all : (xs : List Move) (c : Content) (h : OpenHandle Progress) → target_is_dead (apply_all_seen xs c) h ≡ target_is_dead_after c xs h
dead-all xs c h = ap (λ o. not (is_directory_kind h.kind) && is_none o) (found-all xs c h.target)

-- What follows for a handle, by what stood before.
pub follows-before : (xs : List Move) (c : Content) (h : OpenHandle Progress) → NamesAreFree c xs → follows_in (apply_all_seen xs c) (entries_told xs) h ≡ follows c xs h
follows-before xs c h new = λ i. pulse_and_reply h (entries_told xs) (dead-all xs c h i) (target-all xs c h new i)

-- ---- names that are free

free-by : (x : Move) (c : Content) → Basis c → Fits c x → NameIsFree c x
free-by (Creates o) c b f = name-free c b.tree o f.1
free-by (AppendsRecord e) c b f = tt
free-by (Attaches conn) c b f = tt
free-by (Leaves conn) c b f = tt
free-by (Opens h) c b f = tt
free-by (Closes number) c b f = tt
free-by (CatchesUp number) c b f = tt
free-by (Advances number count) c b f = tt
free-by (Parks number size) c b f = tt
free-by (Arms number pulse) c b f = tt
free-by (Queues conn item) c b f = tt
free-by (Takes conn) c b f = tt
free-by (MakesDirectory path) c b f = tt
free-by (RemovesDirectory number) c b f = tt

-- Moves that keep what stands well formed create objects of free names.
pub free-fit : (xs : List Move) (c : Content) → Basis c → AreFit c xs → NamesAreFree c xs
free-fit [] c b f = tt
free-fit (x ∷ xs) c b f = (free-by x c b f.0, free-fit xs (apply_seen x c) (basis-kept x c b f.0) f.1)
