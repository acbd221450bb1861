use Rattle.service_laws.proofs.SettlingUntouched.{offer_all-untouched, handle_after-left, told-stays}
use Rattle.service_laws.proofs.laws_of_settling.others_stay.Goals as goal

pub returns : goal.returns
returns c = record { untouched = offer_all-untouched; left = handle_after-left; stays = told-stays }
