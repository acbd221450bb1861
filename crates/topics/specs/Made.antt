-- The shares of a record that were made ahead.
use Rattle.std.specs.Prelude.{◌≡◌, List, [], ◌∷◌}
use Rattle.std.specs.List.{AllByRecursion}
use Rattle.pps_types.specs.History.{Entry}
use Rattle.topics.specs.declared.made.Made.{Made}
use Rattle.topics.specs.declared.made.Made.TheVariants.{Nothing, One, Many}

abbrev pub shares_in : Made → List Entry
shares_in Nothing = []
shares_in (One e) = e ∷ []
shares_in (Many list) = list.value.items

-- each is of that record
abbrev pub AreOf : Entry → Made → Type 0
AreOf e made = AllByRecursion (λ s. s ≡ e) (shares_in made)
