-- Places that are free.
use Rattle.std.specs.Prelude.{◌≡◌, Option, is_some, Result, Ok, Err}
use Rattle.std.proofs.Common.{◌∙◌, ap, cond}
use Rattle.pps_types.specs.declared.refusal.Refusal.{Refusal}
use Rattle.pps_types.specs.declared.refusal.Refusal.TheVariants.{Exists}
use Rattle.pps_types.specs.declared.found.Found.{Found}
use Rattle.pps_types.specs.Bytes.{◌>>=◌}
use Rattle.pps_types.specs.Names.{Path, place, new_refusal, refusal_of}
use Rattle.pps_types.specs.Content.{Content, at}
use Rattle.name_table.specs.Standing.{content_of, standing_in}
use Rattle.name_table.specs.Laws.{QuestionsAreTold}

pub free_by : QuestionsAreTold → (c : Content) (path : Path) (r : Result (Option Found) Refusal) → r ≡ place (at (content_of (standing_in c))) path
    → refusal_of (r >>= (λ (found : Option Found). cond (is_some found) (Err Exists) (Ok found))) ≡ new_refusal (at c) path
free_by told c path r is =
    ap (λ r. refusal_of (r >>= (λ (found : Option Found). cond (is_some found) (Err Exists) (Ok found)))) is
    ∙ ap (λ (a : Path → Option Found). new_refusal a path) (told.at c)
