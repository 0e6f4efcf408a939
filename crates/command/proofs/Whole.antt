-- A whole text, line by line.
use mathlib.Core.Path.{◌≡◌, refl, sym, subst, ap, ◌∙◌}
use mathlib.Core.List.{List, [], ◌∷◌, ◌++◌, append-nil, append_assoc}
use Prim.Native.Nat.{ℕ, zero, suc, ◌+◌, ◌-◌, ◌*◌, ◌<◌, ◌≤◌}
use native.Mathlib.Nat.{sub-zero, suc-sub-suc}
use native.Mathlib.Omega.{arith}
use lib.ListN.{length, get_or, drop, replicate, length-append, length-replicate}
use lib.Seq.{sets-eq, drop-cons}
use Rattle.rules.specs.declared.Schedule.{Schedule}
use Rattle.rules.specs.Good.{Good, fresh}
use Rattle.rules.specs.Text.{byte, text}
use Rattle.rules.specs.Split.{before}
use Rattle.rules.specs.Commands.{says}
use Rattle.rules.specs.Program.{most_input, most_output, carried_out, answered, program}
use Rattle.texts.proofs.SplitLaws.{Without, before_without}
use Rattle.command.proofs.ProgramLaws.{answered_line, answered_tail, answered_nothing, program_long, program_answered}
use Rattle.text.specs.Promises.{Puts}
use Rattle.text.proofs.Putting.{puts_after}
use Rattle.command.specs.Promises.{Carries, Prints, Runs}

drop_replicate : (k n a : ℕ) → drop k (replicate n a) ≡ replicate (n - k) a
drop_replicate zero n a = ap (λ (m : ℕ). replicate m a) (sym (sub-zero n))
drop_replicate (suc k) zero a = let z : 0 - suc k ≡ 0 = omega arith in rw z
drop_replicate (suc k) (suc n) a = drop_replicate k n a ∙ ap (λ (m : ℕ). replicate m a) (sym (suc-sub-suc n k))

-- What is printed, and zeros behind it.
filled : (most : ℕ) (words exit : List ℕ) (n : ℕ) → Puts (replicate most 0) 0 words exit n → n ≤ most → exit ≡ words ++ replicate (most - n) 0
filled most words exit n p h =
    let e : 0 + length words ≡ n = omega (arith, p.ends) in
    p.stored ∙ sets-eq words (replicate most 0) 0 (omega (arith, e, length-replicate {A = ℕ} most 0))
    ∙ ap (λ (x : List ℕ). words ++ x) (ap (λ (k : ℕ). drop k (replicate most 0)) e ∙ drop_replicate n most 0)

pub runs : (input exit : List ℕ) (n : ℕ) → Prints input (replicate most_output 0) exit n → Runs input (record { bytes = exit; count = n })
runs input exit n p = record { count = omega (arith, p.puts.ends); fits = p.fits; bytes = filled most_output (program input) exit n p.puts p.fits }

-- ---- line by line
-- The bytes before the rest are answered: these are put, and the rest is up to s.
pub record SoFar (input entry exit rest : List ℕ) (s : Schedule) (at : ℕ) : Type 0 where
  pub good : Good s
  pub done : List ℕ
  pub puts : Puts entry 0 done exit at
  pub answers : answered fresh input ≡ done ++ answered s rest
  pub room : at + 4 * length rest ≤ 4 * length input

pub so_far_none : (input entry : List ℕ) (s : Schedule) → s ≡ fresh → Good s → SoFar input entry entry input s 0
so_far_none input entry s e good =
    record { good = good; done = []; puts = record { stored = refl; ends = refl }; answers = ap (λ (x : Schedule). answered x input) (sym e); room = omega arith }

module _ (input entry exit rest : List ℕ) (s : Schedule) (at : ℕ) (f : SoFar input entry exit rest s at) where
  -- A whole line more.
  pub so_far_line : (line later : List ℕ) → (line ≡ before (byte "\n") rest) × (rest ≡ line ++ byte "\n" ∷ later)
      → {new : List ℕ} {after : Schedule} {n : ℕ} → Carries s line exit at new after n → SoFar input entry new later after n
  so_far_line line later e {new} {after} {n} k =
      let clean : Without (byte "\n") line = subst (Without (byte "\n")) (sym e.0) (before_without (byte "\n") rest) in
      let words = (carried_out s (says line)).words in
      let next = (carried_out s (says line)).schedule in
      record {
        good = k.good;
        done = f.done ++ (words ++ (byte "\n" ∷ []));
        puts = puts_after f.puts k.prints;
        answers =
            f.answers
            ∙ ap (λ (x : List ℕ). f.done ++ x) (ap (answered s) e.1 ∙ answered_line s line later clean)
            ∙ sym (append_assoc f.done (words ++ (byte "\n" ∷ [])) (answered next later)
            ∙ ap (λ (x : List ℕ). f.done ++ x) (append_assoc words (byte "\n" ∷ []) (answered next later)))
            ∙ ap (λ (x : Schedule). f.done ++ (words ++ (byte "\n" ∷ [])) ++ answered x later) (sym k.leaves);
        room = omega (arith, k.room, f.room, ap (λ (x : List ℕ). length x) e.1, length-append line (byte "\n" ∷ later));
      }

  -- A line and its LF are no shorter than what they need.
  pub so_far_room : (line later : List ℕ) → rest ≡ line ++ byte "\n" ∷ later → at + 4 * (length line + 1) ≤ 4 * length input
  so_far_room line later e = omega (arith, f.room, ap (λ (x : List ℕ). length x) e, length-append line (byte "\n" ∷ later))

  -- A tail.
  pub so_far_tail : before (byte "\n") rest ≡ rest → 0 < length rest → {new : List ℕ} {n : ℕ} → Puts exit at (text "bad\n") new n → Puts entry 0 (answered fresh input) new n
  so_far_tail e some {new} {n} p =
      let first : rest ≡ get_or rest 0 0 ∷ drop 1 rest = drop-cons rest 0 0 some in
      let clean = subst (Without (byte "\n")) (e ∙ first) (before_without (byte "\n") rest) in
      let bad : answered s rest ≡ text "bad\n" = ap (answered s) first ∙ answered_tail s (get_or rest 0 0) (drop 1 rest) clean in
      subst (λ (x : List ℕ). Puts entry 0 x new n) (sym (f.answers ∙ ap (λ (x : List ℕ). f.done ++ x) bad)) (puts_after f.puts p)

  -- Nothing more.
  pub so_far_all : length rest ≡ 0 → Puts entry 0 (answered fresh input) exit at
  so_far_all e =
      let none : rest ≡ [] = empty rest e in
      let nothing : answered s rest ≡ [] = ap (answered s) none ∙ answered_nothing s in
      let all : f.done ≡ answered fresh input = sym (f.answers ∙ ap (λ (x : List ℕ). f.done ++ x) nothing ∙ append-nil f.done) in
      subst (λ (x : List ℕ). Puts entry 0 x exit at) all f.puts
    where
      empty : (xs : List ℕ) → length xs ≡ 0 → xs ≡ []
      empty [] q = refl
      empty (x ∷ xs) q = absurd (omega arith)

-- ---- the whole
pub prints_long : (input entry exit : List ℕ) (n : ℕ) → most_input < length input → Puts entry 0 (text "long\n") exit n → Prints input entry exit n
prints_long input entry exit n h p =
    record { puts = subst (λ (x : List ℕ). Puts entry 0 x exit n) (sym (program_long input h)) p; fits = omega (arith, p.ends) }

pub prints_answered : (input entry exit : List ℕ) (n : ℕ) → length input ≤ most_input → Puts entry 0 (answered fresh input) exit n → n ≤ most_output → Prints input entry exit n
prints_answered input entry exit n h p fits =
    record { puts = subst (λ (x : List ℕ). Puts entry 0 x exit n) (sym (program_answered input h)) p; fits = fits }
