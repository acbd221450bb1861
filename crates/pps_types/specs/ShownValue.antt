-- What the program shows of an attribute's value, by its encoding. QNX PPS guide, on encodings; the program's `--show` is our own.
use Rattle.std.specs.Prelude.{ℕ, List, true, false, if◌then◌else◌, Result, Ok, Err, codes}
use Rattle.base64.specs.Engines.{standard}
use Rattle.base64.specs.GeneralPurpose.{decode_of}
use Rattle.pps_types.specs.declared.shown.Shown.{Shown}
use Rattle.pps_types.specs.declared.shown.Shown.TheVariants.{Plain, Flag, Bytes, Bad}
use Rattle.pps_types.specs.Bytes.{same}

-- encoding `b`: true or false
abbrev pub flag_of : List ℕ → Shown
flag_of value = if same value (codes "true") then Flag true else if same value (codes "false") then Flag false else Bad

abbrev pub decoded : {E : Type 0} → Result (List ℕ) E → Shown
decoded (Ok bytes) = Bytes bytes
decoded (Err e) = Bad

-- Encoding `b64`: the bytes that the value encodes in base64, with the standard alphabet and padding (RFC 4648).
-- Any other encoding is shown as it stands.
abbrev pub shown_value : List ℕ → List ℕ → Shown
shown_value enc value = if same enc (codes "b") then flag_of value else if same enc (codes "b64") then decoded (decode_of standard value) else Plain
