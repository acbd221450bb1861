-- What a read is given is the longest run of blocks that fits.
use Rattle.std.proofs.Common.{◌≡◌, ◌≤◌, ◌<◌, suc, ◌+◌, ◌-◌, Bool, true, false, cond, [], ◌∷◌, ◌++◌, length, length-append, take, refl, sym, ap, subst, ◌∙◌, arith, leb}
use Rattle.std.specs.List.{concat}
use Rattle.std.proofs.lemmas.Bool.Decides.{nat_tests}
use Rattle.pps_types.specs.Reading.{fitting, with_block, IsLongestRun, BlocksFit}

pub fitting-longest : BlocksFit
fitting-longest room [] = record { within = omega arith; bytes = refl; fits = omega arith; longest = λ lt. absurd (omega arith) }
fitting-longest room (b ∷ bs) = by (leb (length b) room) refl (fitting-longest (room - length b) bs)
  where
    by : (fits : Bool) → leb (length b) room ≡ fits → IsLongestRun (room - length b) bs (fitting (room - length b) bs) → IsLongestRun room (b ∷ bs) (cond fits (with_block b (fitting (room - length b) bs)) (0, []))
    by true is rest =
        let given = fitting (room - length b) bs in
        let le : length b ≤ room = grind (arith, nat_tests) in
        let shift : 1 + given.0 ≡ suc given.0 = omega arith in
        let more : 1 + given.0 + 1 ≡ suc (given.0 + 1) = omega arith in
        record {
          within = let w = rest.within in omega arith;
          bytes = ap (λ t. b ++ t) rest.bytes ∙ sym (ap (λ n. concat (take n (b ∷ bs))) shift);
          fits = let f = rest.fits in omega (arith, length-append b given.1);
          longest = λ lt.
              let l = rest.longest (omega arith) in
              subst (λ n. room < length (concat (take n (b ∷ bs)))) (sym more) (omega (arith, length-append b (concat (take (given.0 + 1) bs))));
        }
    by false is rest = record {
      within = omega arith;
      bytes = refl;
      fits = omega arith;
      longest = λ lt. let more : room < length b = grind (arith, nat_tests) in omega (arith, length-append b []);
    }
