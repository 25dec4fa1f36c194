-- The ten phase fractions are what specs/TenFractions says of them, each by computing it.
use Rattle.std.proofs.Common.{refl}
use lib.Ieee.{div, of_int, of_bits, of_fields}
use Rattle.taps.specs.Taps.{phase_of}
use Rattle.taps.specs.TenFractions.{PhaseClaims, Unrounded, Each, ten_fractions}

pub phase_claims : PhaseClaims
unfolding Each Unrounded ten_fractions phase_of div of_int of_bits of_fields
phase_claims =
    record {
      divided = (record { phase = refl; bits = refl }, (record { phase = refl; bits = refl }, (record { phase = refl; bits = refl }, (record { phase = refl; bits = refl }, (record { phase = refl; bits = refl }, (record { phase = refl; bits = refl }, (record { phase = refl; bits = refl }, (record { phase = refl; bits = refl }, (record { phase = refl; bits = refl }, (record { phase = refl; bits = refl }, tt))))))))));
      unrounded = ((λ _. (refl, refl)), ((λ _. (refl, refl)), ((λ _. (refl, refl)), ((λ n. absurd (n refl)), ((λ n. absurd (n refl)), ((λ n. absurd (n refl)), ((λ _. (refl, refl)), ((λ _. (refl, refl)), ((λ _. (refl, refl)), ((λ _. (refl, refl)), tt))))))))));
    }
