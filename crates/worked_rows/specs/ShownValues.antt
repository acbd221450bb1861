-- What the program shows of an attribute's value.
use Rattle.std.specs.Prelude.{◌≡◌, [], true, false, codes}
use Rattle.pps_types.specs.declared.shown.Shown.TheVariants.{Plain, Flag, Bytes, Bad}
use Rattle.pps_types.specs.ShownValue.{shown_value}

-- base64 is read in its one canonical spelling, with padding
abbrev pub ShownValues : Type 0
ShownValues =
    (shown_value (codes "b64") (codes "aGVsbG8=") ≡ Bytes (codes "hello"))
    × (shown_value (codes "b") (codes "true") ≡ Flag true)
    × (shown_value (codes "b") (codes "false") ≡ Flag false)
    × (shown_value (codes "b64") [] ≡ Bytes [])
    × (shown_value (codes "b") (codes "True") ≡ Bad)
    × (shown_value (codes "b") [] ≡ Bad)
    × (shown_value (codes "b64") (codes "aGVsbG8") ≡ Bad)
    × (shown_value (codes "b64") (codes "aGVsbG9=") ≡ Bad)
    × (shown_value (codes "b64") (codes "aGVs bG8=") ≡ Bad)
    × (shown_value (codes "n") (codes "65") ≡ Plain)
    × (shown_value [] (codes "true") ≡ Plain)
