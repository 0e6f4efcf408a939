use borrow.Author.Rules.{rules}
use mathlib.Core.Path.{◌≡◌, refl}
use mathlib.Core.Bool.{true, false}
use Prim.Native.Nat.{◌+◌, ◌%◌, ◌^◌}
use native.Mathlib.Omega.{arith}
use Rattle.std.proofs.lemmas.Iterator.{cases_from_all, YieldsList-from_range}
use Rattle.rules.specs.Classes.{free}
use Rattle.run.proofs.Free.{free_says}
use Rattle.run.proofs.run_free.Goals as goal

pub returns : goal.returns
returns c taken e =
    let a = c.args in
    free_says taken a.k a.anchor a.length c.all.result
    (cases_from_all _ _ c.all.result
    (λ j. true ≡ free taken a.k ((a.anchor + j) % 2 ^ a.k))
    (λ j. false ≡ free taken a.k ((a.anchor + j) % 2 ^ a.k))
    c.all.ensures.ran (YieldsList-from_range 0 a.length a.length refl (omega arith))
    (λ j q k. search rules)
    (λ j q k. search rules))
