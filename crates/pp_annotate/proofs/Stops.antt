-- What is counted up to a stop, and then so many times.
use Rattle.std.proofs.Common.{◌≡◌, ℕ, zero, suc, ◌+◌, ◌*◌, min, arith}

pub times_counted : (n g stop : ℕ) → min (n * min g stop) stop ≡ min (n * g) stop
times_counted zero g stop = omega arith
times_counted (suc n) g stop =
    let counted : suc n * min g stop ≡ min g stop + n * min g stop = omega arith in
    let all : suc n * g ≡ g + n * g = omega arith in
    omega (arith, counted, all, times_counted n g stop)

pub rise_counted : (b n g stop : ℕ) → min (b + n * min g stop) stop ≡ min (b + n * g) stop
rise_counted b n g stop = omega (arith, times_counted n g stop)
