-- The laws of a call's checks.
use mathlib.Core.Path.{◌≡◌, refl, sym, ap, ◌∙◌}
use mathlib.Core.Bool.{Bool, true, false, not, ◌&&◌, cond, false≢true}
use mathlib.Core.List.{List, [], ◌∷◌}
use mathlib.Core.Logic.{◌↔◌, ◌⊎◌, inl, inr, ⊎_elim}
use Prim.Native.Nat.{ℕ, zero, suc, ◌<◌}
use native.Mathlib.Omega.{arith}
use lib.Dec.{eqb}
use lib.ListN.{length, get_or, take, drop}
use borrow.Author.Tests.{eq-eqb}
use Rattle.rules.specs.declared.Refusal.{Refusal}
use Rattle.rules.specs.declared.Schedule.{Schedule}
use Rattle.rules.specs.Refusals.{number, Check, decided}
use Rattle.rules.specs.Answers.{Answer, Outcome, refused, refusing}
use Rattle.basics.proofs.BoolLaws.{both}

-- "one number from the rule sheet's table": that of a named refusal.
abbrev pub InTable : ℕ → Type 0
InTable n = (why : Refusal) × (n ≡ number why)

-- No check refuses.
abbrev pub Passed : List Check → Type 0
Passed [] = Unit {0}
Passed (c ∷ cs) = (c.refuses ≡ false) × Passed cs

-- Of a list that passes the first n pass; and it passes where they and the rest do.
pub passed_take : (n : ℕ) (cs : List Check) → Passed cs → Passed (take n cs)
passed_take zero cs p = tt
passed_take (suc n) [] p = tt
passed_take (suc n) (c ∷ cs) p = (p.0, passed_take n cs p.1)

pub passed_both : (n : ℕ) (cs : List Check) → Passed (take n cs) → Passed (drop n cs) → Passed cs
passed_both zero cs p q = q
passed_both (suc n) [] p q = tt
passed_both (suc n) (c ∷ cs) p q = (p.0, passed_both n cs p.1 q)

-- A call is refused, or all its checks pass and it is carried out.
pub decided_cases {ℓ κ} : {A : Type ℓ} (P : A → Type κ) (cs : List Check) (refuse : ℕ → A) (done : A) → ((why : Refusal) → P (refuse (number why))) → (Passed cs → P done) → P (decided cs refuse done)
unfolding decided
decided_cases P [] refuse done f g = g tt
decided_cases P (c ∷ cs) refuse done f g = go c.refuses refl (λ q. decided_cases P cs refuse done f (λ p. g (q, p)))
  where
    go : (v : Bool) → c.refuses ≡ v → (c.refuses ≡ false → P (decided cs refuse done)) → P (cond c.refuses (refuse (number c.why)) (decided cs refuse done))
    go true q later = rw q (f c.why)
    go false q later = rw q (later q)

-- Where all checks pass, it is carried out.
pub decided_passed {ℓ} : {A : Type ℓ} (cs : List Check) (refuse : ℕ → A) (done : A) → Passed cs → decided cs refuse done ≡ done
unfolding decided
decided_passed [] refuse done p = refl
decided_passed (c ∷ cs) refuse done p = rw p.0 (decided_passed cs refuse done p.1)

-- The number that the first refusing check gives.
abbrev pub FirstRefusal : List Check → ℕ → Type 0
FirstRefusal [] n = ⊥
FirstRefusal (c ∷ cs) n = ((c.refuses ≡ true) × (number c.why ≡ n)) ⊎ ((c.refuses ≡ false) × FirstRefusal cs n)

-- It is the number that the call is refused with.
pub decided_first {ℓ} : {A : Type ℓ} (cs : List Check) (refuse : ℕ → A) (done : A) {n : ℕ} → FirstRefusal cs n → decided cs refuse done ≡ refuse n
unfolding decided
decided_first [] refuse done e = absurd e
decided_first (c ∷ cs) refuse done e = ⊎_elim (λ w. rw w.0 (ap refuse w.1)) (λ w. rw w.0 (decided_first cs refuse done w.1)) e

-- A check that passes may be left out; after the same check, the same is decided where the later checks decide the same.
module _ {ℓ} {A : Type ℓ} (c : Check) (cs : List Check) (refuse : ℕ → A) (done : A) where
  pub decided_skip : c.refuses ≡ false → decided (c ∷ cs) refuse done ≡ decided cs refuse done
  unfolding decided
  decided_skip e = rw e

  pub decided_after : (ds : List Check) (done' : A) → decided cs refuse done ≡ decided ds refuse done' → decided (c ∷ cs) refuse done ≡ decided (c ∷ ds) refuse done'
  unfolding decided
  decided_after ds done' e = ap (λ (later : A). cond c.refuses (refuse (number c.why)) later) e

-- What is decided goes through a function.
pub decided_map {ℓ κ} : {A : Type ℓ} {B : Type κ} (g : A → B) (cs : List Check) (refuse : ℕ → A) (done : A) → g (decided cs refuse done) ≡ decided cs (λ n. g (refuse n)) (g done)
unfolding decided
decided_map g [] refuse done = refl
decided_map g (c ∷ cs) refuse done = go c.refuses (decided_map g cs refuse done)
  where
    go : (v : Bool) → g (decided cs refuse done) ≡ decided cs (λ n. g (refuse n)) (g done)
        → g (cond v (refuse (number c.why)) (decided cs refuse done)) ≡ cond v (g (refuse (number c.why))) (decided cs (λ n. g (refuse n)) (g done))
    go true later = refl
    go false later = later

-- Two things that are decided by the same checks, put together.
pub decided_both : {A B C : Type 0} (f : A → B → C) (cs : List Check) (refuse : ℕ → A) (done : A) (refuse' : ℕ → B) (done' : B) (refused'' : ℕ → C) (done'' : C)
    → ((m : ℕ) → f (refuse m) (refuse' m) ≡ refused'' m) → f done done' ≡ done''
    → f (decided cs refuse done) (decided cs refuse' done') ≡ decided cs refused'' done''
unfolding decided
decided_both f [] refuse done refuse' done' refused'' done'' p q = q
decided_both f (c ∷ cs) refuse done refuse' done' refused'' done'' p q = go c.refuses (decided_both f cs refuse done refuse' done' refused'' done'' p q)
  where
    go : (v : Bool) → f (decided cs refuse done) (decided cs refuse' done') ≡ decided cs refused'' done''
        → f (cond v (refuse (number c.why)) (decided cs refuse done)) (cond v (refuse' (number c.why)) (decided cs refuse' done')) ≡ cond v (refused'' (number c.why)) (decided cs refused'' done'')
    go true later = p (number c.why)
    go false later = later

-- "A refusal returns its number only; the schedule .. as .. before the call": of every call that answers with a schedule.
pub refusal_keeps : (cs : List Check) (s : Schedule) (done : Outcome) → ((n : ℕ) → done.answer ≡ refused n → ⊥)
    → (n : ℕ) → (decided cs (refusing s) done).answer ≡ refused n → (decided cs (refusing s) done).schedule ≡ s
refusal_keeps cs s done never n =
    decided_cases (λ o. o.answer ≡ refused n → o.schedule ≡ s) cs (refusing s) done (λ m e. refl) (λ p e. absurd (never n e))

pub refused_same : {m n : ℕ} → refused m ≡ refused n → m ≡ n
refused_same e = cc

-- A call is refused with n exactly if the first of its checks that refuses has the number n.
pub refused_exactly : (cs : List Check) (done : Answer) → ((n : ℕ) → done ≡ refused n → ⊥) → (n : ℕ) → (decided cs refused done ≡ refused n) ↔ FirstRefusal cs n
unfolding decided
refused_exactly [] done never n = (never n, λ e. absurd e)
refused_exactly (c ∷ cs) done never n = (go c.refuses refl (refused_exactly cs done never n).0, decided_first (c ∷ cs) refused done)
  where
    go : (v : Bool) → c.refuses ≡ v → (decided cs refused done ≡ refused n → FirstRefusal cs n)
        → cond c.refuses (refused (number c.why)) (decided cs refused done) ≡ refused n → FirstRefusal (c ∷ cs) n
    go true q later e = inl (q, refused_same (rw q at e))
    go false q later e = inr (q, later (rw q at e))

-- The same of a call that answers with a schedule.
pub refusing_exactly : (cs : List Check) (s : Schedule) (done : Outcome) → ((n : ℕ) → done.answer ≡ refused n → ⊥) → (n : ℕ) → ((decided cs (refusing s) done).answer ≡ refused n) ↔ FirstRefusal cs n
refusing_exactly cs s done never n =
    let e = decided_map (λ (o : Outcome). o.answer) cs (refusing s) done in
    let r = refused_exactly cs done.answer never n in
    (λ x. r.0 (sym e ∙ x), λ x. e ∙ r.1 x)

-- ---- checks of different numbers
-- No check has the number n.
abbrev pub without : ℕ → List Check → Bool
without n [] = true
without n (c ∷ cs) = not (eqb (number c.why) n) && without n cs

abbrev pub distinct : List Check → Bool
distinct [] = true
distinct (c ∷ cs) = without (number c.why) cs && distinct cs

without_at : (cs : List Check) (n i : ℕ) (other : Check) → without n cs ≡ true → i < length cs → number (get_or cs i other).why ≡ n → ⊥
without_at [] n i other w l e = omega arith
without_at (c ∷ cs) n zero other w l e = false≢true (sym (ap not (eq-eqb (number c.why) n e)) ∙ (both (not (eqb (number c.why) n)) (without n cs) w).0)
without_at (c ∷ cs) n (suc i) other w l e = without_at cs n i other (both (not (eqb (number c.why) n)) (without n cs) w).1 (omega arith) e

without_first : (cs : List Check) (n : ℕ) → without n cs ≡ true → FirstRefusal cs n → ⊥
without_first [] n w e = e
without_first (c ∷ cs) n w e =
    let p = both (not (eqb (number c.why) n)) (without n cs) w in
    ⊎_elim (λ v. false≢true (sym (ap not (eq-eqb (number c.why) n v.1)) ∙ p.0)) (λ v. without_first cs n p.1 v.1) e

-- The first that refuses is check i, from 0 on, exactly if it refuses and those before it pass.
first_at : (cs : List Check) (i : ℕ) (other : Check) → distinct cs ≡ true → i < length cs
    → FirstRefusal cs (number (get_or cs i other).why) ↔ (Passed (take i cs) × ((get_or cs i other).refuses ≡ true))
first_at [] i other d l = absurd (omega arith)
first_at (c ∷ cs) zero other d l =
    let p = both (without (number c.why) cs) (distinct cs) d in
    (⊎_elim (λ w. (tt, w.0)) (λ w. absurd (without_first cs (number c.why) p.0 w.1)), λ w. inl (w.1, refl))
first_at (c ∷ cs) (suc i) other d l =
    let p = both (without (number c.why) cs) (distinct cs) d in
    let r = first_at cs i other p.1 (omega arith) in (
      ⊎_elim (λ w. absurd (without_at cs (number c.why) i other p.0 (omega arith) (sym w.1))) (λ w. let q = r.0 w.1 in ((w.0, q.0), q.1)),
      λ w. inr (w.0.0, r.1 (w.0.1, w.1)),
    )

-- So what the checks decide is a refusal with the number of check i exactly if it refuses and those before it pass; `other` is what a list gives past its end.
pub refused_at : (cs : List Check) (answer done : Answer) → answer ≡ decided cs refused done → ((n : ℕ) → done ≡ refused n → ⊥) → distinct cs ≡ true → (i : ℕ) (other : Check)
    → i < length cs → (answer ≡ refused (number (get_or cs i other).why)) ↔ (Passed (take i cs) × ((get_or cs i other).refuses ≡ true))
refused_at cs answer done e never d i other l =
    let r = refused_exactly cs done never (number (get_or cs i other).why) in
    let q = first_at cs i other d l in
    (λ x. q.0 (r.0 (sym e ∙ x)), λ w. e ∙ r.1 (q.1 w))

-- The same of a call that answers with a schedule.
pub refusing_at : (cs : List Check) (s : Schedule) (done : Outcome) → ((n : ℕ) → done.answer ≡ refused n → ⊥) → distinct cs ≡ true → (i : ℕ) (other : Check) → i < length cs
    → ((decided cs (refusing s) done).answer ≡ refused (number (get_or cs i other).why)) ↔ (Passed (take i cs) × ((get_or cs i other).refuses ≡ true))
refusing_at cs s done = refused_at cs (decided cs (refusing s) done).answer done.answer (decided_map (λ (o : Outcome). o.answer) cs (refusing s) done)

-- A number that no check has is never given.
pub refused_without : (cs : List Check) (answer done : Answer) → answer ≡ decided cs refused done → ((n : ℕ) → done ≡ refused n → ⊥) → (n : ℕ) → without n cs ≡ true
    → answer ≡ refused n → ⊥
refused_without cs answer done e never n w q = without_first cs n w ((refused_exactly cs done never n).0 (sym e ∙ q))
