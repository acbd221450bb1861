-- Handles that keep their openings, whatever else changes: they are in rising number still, and the same ones are clients'.
use Rattle.std.proofs.Common.{◌≡◌, ◌<◌, ℕ, Bool, true, false, List, [], ◌∷◌, sym, ap, subst, ◌∙◌}
use Rattle.std.specs.List.{AllByRecursion, AllZip}
use Rattle.pps_types.specs.Rising.{AllAbove, IsRising}
use Rattle.sub_reader.specs.declared.opening.Opening.{Opening}
use Rattle.sub_reader.specs.Rows.{number_in}
use Rattle.topics.specs.QueueRows.{QueueRow, IsRowOn, IsOfClient, IsLed, IsService}

module _ (object : ℕ) (Goes : QueueRow → QueueRow → Type 0) (keeps : (x y : QueueRow) → Goes x y → y.opening ≡ x.opening) (right : (x y : QueueRow) → IsRowOn object x → Goes x y → IsRowOn object y) where
  each-is : (xs ys : List QueueRow) → AllByRecursion (IsRowOn object) xs → AllZip Goes xs ys → AllByRecursion (IsRowOn object) ys
  each-is [] [] each all = tt
  each-is [] (y ∷ ys) each all = absurd all
  each-is (x ∷ xs) [] each all = absurd all
  each-is (x ∷ xs) (y ∷ ys) each all = (right x y each.0 all.0, each-is xs ys each.1 all.1)

  above-is : (n : ℕ) (xs ys : List QueueRow) → AllAbove number_in n xs → AllZip Goes xs ys → AllAbove number_in n ys
  above-is n [] [] above all = tt
  above-is n [] (y ∷ ys) above all = absurd all
  above-is n (x ∷ xs) [] above all = absurd all
  above-is n (x ∷ xs) (y ∷ ys) above all = (subst (λ (o : Opening). n < o.number) (sym (keeps x y all.0)) above.0, above-is n xs ys above.1 all.1)

  rising-is : (xs ys : List QueueRow) → IsRising number_in xs → AllZip Goes xs ys → IsRising number_in ys
  rising-is [] [] rising all = tt
  rising-is [] (y ∷ ys) rising all = absurd all
  rising-is (x ∷ xs) [] rising all = absurd all
  rising-is (x ∷ xs) (y ∷ ys) rising all = (subst (λ (o : Opening). AllAbove number_in o.number ys) (sym (keeps x y all.0)) (above-is (number_in x) xs ys rising.0 all.1), rising-is xs ys rising.1 all.1)

  clients-is : (xs ys : List QueueRow) → AllByRecursion IsOfClient xs → AllZip Goes xs ys → AllByRecursion IsOfClient ys
  clients-is [] [] clients all = tt
  clients-is [] (y ∷ ys) clients all = absurd all
  clients-is (x ∷ xs) [] clients all = absurd all
  clients-is (x ∷ xs) (y ∷ ys) clients all = (ap (λ (o : Opening). o.kind) (keeps x y all.0) ∙ clients.0, clients-is xs ys clients.1 all.1)

  led-is : (led : Bool) (xs ys : List QueueRow) → IsLed led xs → AllZip Goes xs ys → IsLed led ys
  led-is false xs ys clients all = tt
  led-is true [] [] clients all = tt
  led-is true [] (y ∷ ys) clients all = absurd all
  led-is true (x ∷ xs) [] clients all = absurd all
  led-is true (x ∷ xs) (y ∷ ys) clients all = clients-is xs ys clients all.1

  pub service-is : (led : Bool) (xs ys : List QueueRow) → IsService object led xs → AllZip Goes xs ys → IsService object led ys
  service-is led xs ys is all = record { each = each-is xs ys is.each all; rising = rising-is xs ys is.rising all; clients = led-is led xs ys is.clients all }
