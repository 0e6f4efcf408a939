use mathlib.Core.Path.{◌≡◌, ap₂}
use Prim.Native.Nat.{ℕ, suc, ◌+◌}
use native.Mathlib.Omega.{arith}
use lib.ListN.{set, length-set}
use Rattle.tidy.proofs.moving.put_move.Goals as goal

pub bounds-list-at-2 : goal.bounds-list-at-2
bounds-list-at-2 c =
    let a = c.args in
    omega (arith, c.requires, length-set a.list.now a.at a.handle)

pub bounds-list-at-3 : goal.bounds-list-at-3
bounds-list-at-3 c =
    let a = c.args in
    omega (arith, c.requires, length-set (set a.list.now a.at a.handle) (a.at + 1) a.old, length-set a.list.now a.at a.handle)

pub returns : goal.returns
returns c =
    let a = c.args in
    let one : a.at + 1 ≡ suc a.at = omega arith in
    let two : a.at + 2 ≡ suc (suc a.at) = omega arith in
    ap₂ (λ (i j : ℕ). set (set (set a.list.now a.at a.handle) i a.old) j a.new) one two
