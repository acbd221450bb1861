-- Texts that are no images, and the line at which each is told. Own.
use Rattle.std.specs.Prelude.{◌≡◌, ℕ, List, [], ◌∷◌, ◌++◌, Bool, true, ◌==◌, Result, Ok, Err, codes, take}
use Rattle.std.specs.List.{list_all}
use Rattle.pps_types.specs.Image.{Image, read_image}
use Rattle.worked_rows.specs.SavedImage.{line, image_saved, older_image}

-- the line at which the bytes are told to be no image; 0 where they are one
abbrev pub bad_line : List ℕ → ℕ
bad_line bytes = line_of (read_image bytes)
  where
    line_of : Result Image ℕ → ℕ
    line_of (Ok i) = 0
    line_of (Err n) = n

-- each beginning of so many bytes is told at that line
abbrev pub are_told : List ℕ → ℕ → List ℕ → Bool
are_told bytes n sizes = list_all (λ size. bad_line (take size bytes) == n) sizes

-- an image that ends too early is told at the line in which it ends
pub record BeginningsAreTold : Type 0 where
  pub first : are_told older_image 1 (0 ∷ 1 ∷ 2 ∷ 3 ∷ 4 ∷ 5 ∷ 6 ∷ 7 ∷ 8 ∷ 9 ∷ 10 ∷ []) ≡ true
  pub second : are_told older_image 2 (11 ∷ 12 ∷ 13 ∷ 14 ∷ 15 ∷ 16 ∷ 17 ∷ 18 ∷ 19 ∷ []) ≡ true
  pub third : are_told older_image 3 (20 ∷ 21 ∷ 22 ∷ 23 ∷ 24 ∷ []) ≡ true
  pub fourth : are_told older_image 4 (25 ∷ 26 ∷ 27 ∷ 28 ∷ []) ≡ true
  pub newer : are_told image_saved 4 (29 ∷ 30 ∷ 31 ∷ 32 ∷ []) ≡ true

abbrev pub older : List ℕ → List ℕ
older rest = line (codes "PPSIMAGE 1") ++ rest

pub record WrongImagesAreTold : Type 0 where
  pub behind_the_end : bad_line (older (line (codes "E 0") ++ codes "x")) ≡ 3
  pub wrong_count : bad_line (older (line (codes "E 1"))) ≡ 2
  pub out_of_order : bad_line (older (line (codes "O /b 0") ++ line (codes "O /a 0") ++ line (codes "E 2"))) ≡ 3
  pub no_parent : bad_line (older (line (codes "O /d/a 0") ++ line (codes "E 1"))) ≡ 2
  pub many_attributes : bad_line (older (line (codes "O /a 1025"))) ≡ 2
  pub repeated_name : bad_line (older (line (codes "O /a 2") ++ line (codes "x::1") ++ line (codes "x::2") ++ line (codes "E 1"))) ≡ 4
  pub taken_name : bad_line (older (line (codes "D /a") ++ line (codes "O /a 0") ++ line (codes "E 2"))) ≡ 3
  pub bracket : bad_line (older (line (codes "O /a 1") ++ line (codes "[n]x::1") ++ line (codes "E 1"))) ≡ 3
  pub deletion : bad_line (older (line (codes "O /a 1") ++ line (codes "-x") ++ line (codes "E 1"))) ≡ 3
  pub root : bad_line (older (line (codes "D /") ++ line (codes "E 1"))) ≡ 2
  pub leading_zero : bad_line (older (line (codes "E 00"))) ≡ 2
  pub limit_of_zero : bad_line (line (codes "PPSIMAGE 2 0") ++ line (codes "E 0")) ≡ 1
  pub later_version : bad_line (line (codes "PPSIMAGE 3 256") ++ line (codes "E 0")) ≡ 1
  pub object_as_parent : bad_line (older (line (codes "O /a 0") ++ line (codes "O /a/b 0") ++ line (codes "E 2"))) ≡ 3
