-- What the numbers of a message stored one after the other come to.
use mathlib.Core.Path.{◌≡◌, refl}
use mathlib.Core.List.{List, ◌++◌}
use Prim.Native.Nat.{ℕ, ◌+◌}
use lib.Seq.{sets}
use Rattle.rules.specs.declared.Subrates.{Subrates}
use Rattle.rules.specs.declared.SubrateChange.{SubrateChange}
use Rattle.rules.specs.declared.Message.{Message}
use Rattle.rules.specs.declared.Message.TheVariants.{Default, Request, Change}
use Rattle.rules.specs.Bytes.{little}
use Rattle.rules.specs.Messages.{two_bytes_each, message_bytes}
use Rattle.basics.proofs.StoreLaws.{put_after}
use Rattle.hci.specs.declared.Five.{Five}
use Rattle.hci.specs.Promises.{five_bytes, of_subrates, of_change}

-- Five numbers, each behind the one before.
pub five_put : (l : List ℕ) (at : ℕ) (f : Five) {b c d e g : List ℕ}
    → b ≡ sets l at (little 2 f.first) → c ≡ sets b (at + 2) (little 2 f.top)
    → d ≡ sets c (at + 4) (little 2 f.latency) → e ≡ sets d (at + 6) (little 2 f.continuation)
    → g ≡ sets e (at + 8) (little 2 f.timeout) → g ≡ sets l at (five_bytes f)
unfolding little two_bytes_each
five_put l at f {b} {c} {d} {e} {g} p q r s t =
    let two : ℕ → List ℕ = λ n. little 2 n in
    let x = put_after l b c at (at + 2) (two f.first) (two f.top) p q refl in
    let xs = two f.first ++ two f.top in
    let y = put_after l c d at (at + 4) xs (two f.latency) x r refl in
    let ys = xs ++ two f.latency in
    let z = put_after l d e at (at + 6) ys (two f.continuation) y s refl in
    put_after l e g at (at + 8) (ys ++ two f.continuation) (two f.timeout) z t refl

-- Behind the head of each message, and what stands before the five.
module _ (l : List ℕ) {m : Message} where
  pub default_put : (v : Subrates) {f : Five} {b c : List ℕ} → m ≡ Default v → f ≡ of_subrates v
      → b ≡ sets l 0 (little 3 0x0a207d) → c ≡ sets b 3 (five_bytes f)
      → c ≡ sets l 0 (message_bytes m)
  unfolding little two_bytes_each message_bytes
  default_put v {f} {b} {c} is e p q =
      let x = rw e at q in
      rw is (put_after l b c 0 3 (little 3 0x0a207d) (five_bytes (of_subrates v)) p x refl)

  pub request_put : (handle : ℕ) (v : Subrates) {n : ℕ} {f : Five} {b c d : List ℕ}
      → m ≡ Request handle v → n ≡ handle → f ≡ of_subrates v
      → b ≡ sets l 0 (little 3 0x0c207e) → c ≡ sets b 3 (little 2 n)
      → d ≡ sets c 5 (five_bytes f) → d ≡ sets l 0 (message_bytes m)
  unfolding little two_bytes_each message_bytes
  request_put handle v {n} {f} {b} {c} {d} is e₁ e₂ p q r =
      let head : List ℕ = little 3 0x0c207e in
      let x = put_after l b c 0 3 head (little 2 handle) p (rw e₁ at q) refl in
      let y = rw e₂ at r in
      let five : List ℕ = five_bytes (of_subrates v) in
      rw is (put_after l c d 0 5 (head ++ little 2 handle) five x y refl)

  pub change_put : (e : SubrateChange) {n : ℕ} {f : Five} {b c d : List ℕ}
      → m ≡ Change e → n ≡ e.status → f ≡ of_change e
      → b ≡ sets l 0 (little 3 0x230c3e) → c ≡ sets b 3 (little 1 n)
      → d ≡ sets c 4 (five_bytes f) → d ≡ sets l 0 (message_bytes m)
  unfolding little two_bytes_each message_bytes
  change_put e {n} {f} {b} {c} {d} is e₁ e₂ p q r =
      let head : List ℕ = little 3 0x230c3e in
      let x = put_after l b c 0 3 head (little 1 e.status) p (rw e₁ at q) refl in
      let y = rw e₂ at r in
      let five : List ℕ = five_bytes (of_change e) in
      rw is (put_after l c d 0 4 (head ++ little 1 e.status) five x y refl)
