-- Two tests of one statement.
use Rattle.std.proofs.Common.{◌≡◌, Bool, true, false, Decides, sym, refl}

pub same_test : (a b : Bool) (P : Type 0) → Decides a P → Decides b P → a ≡ b
same_test true b P d e = sym (e.1 (d.0 refl))
same_test false true P d e = d.1 (e.0 refl)
same_test false false P d e = refl
