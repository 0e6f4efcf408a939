-- The four-number line and the five-number line with 6: two lines, and one call.
use Rattle.std.specs.Prelude.{Some, None}
use mathlib.Core.Path.{◌≡◌, refl, sym, ap, ◌∙◌}
use mathlib.Core.Bool.{Bool, true, false, cond}
use mathlib.Core.List.{List, [], ◌∷◌, ◌++◌}
use Prim.Native.Nat.{ℕ}
use native.Mathlib.Omega.{arith}
use Rattle.rules.specs.declared.Schedule.{Schedule}
use Rattle.rules.specs.declared.Command.{Command}
use Rattle.rules.specs.declared.Command.TheVariants.{Admit, AdmitRange}
use Rattle.rules.specs.Text.{text}
use Rattle.rules.specs.Decimal.{fits}
use Rattle.rules.specs.Words.{spaced}
use Rattle.rules.specs.Commands.{numbers_of, line_of, all_fit, says}
use Rattle.rules.specs.Obey.{single_from, obey}
use Rattle.rules.specs.Program.{carried_out}
use Rattle.texts.proofs.CommandLaws.{line_unique, says_own}

module _ (handle interval floor ceiling : ℕ) where
  abbrev four_line : List ℕ
  four_line = text "admit" ++ spaced (handle ∷ interval ∷ floor ∷ ceiling ∷ [])

  abbrev five_line : List ℕ
  five_line = text "admit" ++ spaced (handle ∷ single_from ∷ interval ∷ floor ∷ ceiling ∷ [])

  abbrev single : Command
  single = Admit handle interval floor ceiling

  abbrev range : Command
  range = AdmitRange handle single_from interval floor ceiling

  -- Their bytes differ,
  pub single_not_range : four_line ≡ five_line → ⊥
  unfolding line_of
  single_not_range e =
      let same : single ≡ range = line_unique single range e in
      let z : ◌≡◌ {A = ℕ} 0 1 = cc in
      omega arith

  -- and they print the same and leave the same: where the numbers of one do not fit, neither do those of the other, and both are bad.
  pub single_as_range : (s : Schedule) → carried_out s (says four_line) ≡ carried_out s (says five_line)
  unfolding line_of all_fit fits carried_out obey
  single_as_range s = ap (carried_out s) (says_own single) ∙ either (all_fit (numbers_of single)) ∙ sym (ap (carried_out s) (says_own range))
    where
      either : (fit : Bool) → carried_out s (cond fit (Some single) None) ≡ carried_out s (cond fit (Some range) None)
      either true = refl
      either false = refl
