-- The laws of a load's checks, one after the other: what each exit of the call comes to.
use mathlib.Core.Path.{◌≡◌, refl, sym, ap, ◌∙◌}
use mathlib.Core.Bool.{true, false, not}
use mathlib.Core.Logic.{◌↔◌, inl, inr}
use mathlib.Core.List.{List}
use Prim.Native.Nat.{ℕ}
use native.Mathlib.Omega.{arith}
use borrow.Author.Tests.{not-false}
use Rattle.rules.specs.declared.Schedule.{Schedule}
use Rattle.rules.specs.declared.Refusal.TheVariants.{RecordsWrong, NumbersUnsound, FactorIllegal, BlockOwnedTwice, TreeDiffers}
use Rattle.rules.specs.Ownership.{largest_k}
use Rattle.rules.specs.Sound.{apart}
use Rattle.rules.specs.Good.{tree_for, fresh, with_connections}
use Rattle.rules.specs.Refusals.{number, check}
use Rattle.rules.specs.Answers.{Outcome, refused, refusing, loaded}
use Rattle.rules.specs.Bytes.{same}
use Rattle.rules.specs.Records.{Piece, pieces_of}
use Rattle.rules.specs.Framing.{count_in, records_wrong, Framed}
use Rattle.rules.specs.Fields.{connections_in, tree_in}
use Rattle.rules.specs.Load.{largest_record_k, records_within, numbers_unsound, any_illegal, factor_illegal, connections_of, load_checks, load_done, load}
use Rattle.basics.proofs.BoolLaws.{is_false}
use Rattle.calls.proofs.RefusalLaws.{Passed, FirstRefusal, decided_first, decided_passed, refusing_exactly, refusing_at, refusal_keeps}
use Rattle.calls.proofs.CallLaws.{Tabled, tabled_outcome}
use Rattle.images.proofs.LegalLaws.{Within, within_exactly, Nine, nine_exactly, legal_told}

loaded_ok : (bytes : List ℕ) (n : ℕ) → (load_done bytes).answer ≡ refused n → ⊥
unfolding load_done
loaded_ok bytes n e = let z : ◌≡◌ {A = ℕ} 0 1 = cc in omega arith

-- ---- the exits of a load
module _ (s : Schedule) (bytes : List ℕ) where
  refused_first : {n : ℕ} → FirstRefusal (load_checks bytes) n → refusing s n ≡ load s bytes
  unfolding load
  refused_first e = sym (decided_first (load_checks bytes) (refusing s) (load_done bytes) e)

  pub load_9 : records_wrong bytes ≡ true → refusing s (number RecordsWrong) ≡ load s bytes
  unfolding load_checks
  load_9 e = refused_first (inl (e, refl))

  -- Each number is given exactly if its check is the first to refuse.
  pub load_refused_exactly : (n : ℕ) → ((load s bytes).answer ≡ refused n) ↔ FirstRefusal (load_checks bytes) n
  unfolding load
  load_refused_exactly n = refusing_exactly (load_checks bytes) s (load_done bytes) (loaded_ok bytes) n

  module _ (n : ℕ) (f : Framed bytes n) where
    pub load_10 : records_within largest_record_k (connections_in (pieces_of bytes)) ≡ false → refusing s (number NumbersUnsound) ≡ load s bytes
    unfolding load_checks numbers_unsound
    load_10 e = refused_first (inr (f.right, inl (ap not e, refl)))

    pub load_18 : records_within largest_record_k (connections_in (pieces_of bytes)) ≡ true → any_illegal (connections_in (pieces_of bytes)) ≡ true → refusing s (number FactorIllegal) ≡ load s bytes
    unfolding load_checks numbers_unsound factor_illegal
    load_18 p e = refused_first (inr (f.right, inr (ap not p, inl (e, refl))))

    module _ (p : records_within largest_k (connections_in (pieces_of bytes)) ≡ true) where
      legal : (records_within largest_record_k (connections_in (pieces_of bytes)) ≡ true) × (any_illegal (connections_in (pieces_of bytes)) ≡ false)
      legal = legal_told (connections_in (pieces_of bytes)) p

      pub load_11 : apart (connections_of (pieces_of bytes)) ≡ false → refusing s (number BlockOwnedTwice) ≡ load s bytes
      unfolding load_checks numbers_unsound factor_illegal
      load_11 e = refused_first (inr (f.right, inr (ap not legal.0, inr (legal.1, inl (ap not e, refl)))))

      module _ (q : apart (connections_of (pieces_of bytes)) ≡ true) where
        pub load_12 : same (tree_in (pieces_of bytes)) (tree_for (connections_of (pieces_of bytes))) ≡ false → refusing s (number TreeDiffers) ≡ load s bytes
        unfolding load_checks numbers_unsound factor_illegal
        load_12 e = refused_first (inr (f.right, inr (ap not legal.0, inr (legal.1, inr (ap not q, inl (ap not e, refl))))))

        pub load_ok : same (tree_in (pieces_of bytes)) (tree_for (connections_of (pieces_of bytes))) ≡ true
            → ◌≡◌ {A = Outcome} (record { answer = loaded n; schedule = with_connections fresh (connections_of (pieces_of bytes)) }) (load s bytes)
        unfolding load load_checks load_done numbers_unsound factor_illegal
        load_ok e =
            sym (decided_passed (load_checks bytes) (refusing s) (load_done bytes) (f.right, (ap not legal.0, (legal.1, (ap not q, (ap not e, tt)))))
            ∙ ap (λ (m : ℕ). record { answer = loaded m; schedule = with_connections fresh (connections_of (pieces_of bytes)) }) f.counts)

-- ---- a k of 9
module _ (s : Schedule) (bytes : List ℕ) where
  abbrev rs : List Piece
  rs = connections_in (pieces_of bytes)

  -- 18 exactly if the framing is right, every record is sound with k to 9 and the handles rise, and some k is 9.
  pub load_18_exactly : ((load s bytes).answer ≡ refused (number FactorIllegal)) ↔ ((records_wrong bytes ≡ false) × Within largest_record_k rs × Nine rs)
  unfolding load load_checks numbers_unsound factor_illegal
  load_18_exactly =
      let r = refusing_at (load_checks bytes) s (load_done bytes) (loaded_ok bytes) refl 2 (check FactorIllegal true) (omega arith) in (
        λ e.
            let w = r.0 e in
            let within = (within_exactly largest_record_k rs).0 (not-false (records_within largest_record_k rs) w.0.1.0) in
            (w.0.0, within, (nine_exactly rs within).0 w.1),
        λ w. r.1 ((w.0, (ap not ((within_exactly largest_record_k rs).1 w.1), tt)), (nine_exactly rs w.1).1 w.2),
      )

  -- So no old backup changes its meaning. Bytes that pass 9, 10, 11 and 12 are accepted, exactly if no record has a k of 9, or are refused with 18 and the
  -- schedule stays.
  module _ (framed : records_wrong bytes ≡ false) (sound : Within largest_record_k rs) (separate : apart (connections_of (pieces_of bytes)) ≡ true)
      (tree : same (tree_in (pieces_of bytes)) (tree_for (connections_of (pieces_of bytes))) ≡ true) where
    passed : any_illegal rs ≡ false → Passed (load_checks bytes)
    unfolding load_checks numbers_unsound factor_illegal
    passed d = (framed, (ap not ((within_exactly largest_record_k rs).1 sound), (d, (ap not separate, (ap not tree, tt)))))

    pub old_taken : (Nine rs → ⊥) → load s bytes ≡ load_done bytes
    unfolding load
    old_taken none = decided_passed (load_checks bytes) (refusing s) (load_done bytes) (passed (is_false (any_illegal rs) (λ e. none ((nine_exactly rs sound).0 e))))

    pub old_refused : Nine rs → load s bytes ≡ refusing s (number FactorIllegal)
    old_refused n =
        sym (load_18 s bytes (count_in (pieces_of bytes)) (record { right = framed; counts = refl }) ((within_exactly largest_record_k rs).1 sound) ((nine_exactly rs sound).1 n))

    pub old_exactly : ((n : ℕ) × ((load s bytes).answer ≡ loaded n)) ↔ (Nine rs → ⊥)
    unfolding load_done
    old_exactly = (
      λ w n.
          let e : loaded w.0 ≡ refused (number FactorIllegal) = sym w.1 ∙ ap (λ (o : Outcome). o.answer) (old_refused n) in
          let z : ◌≡◌ {A = ℕ} 0 1 = cc in
          omega arith,
      λ none. (count_in (pieces_of bytes), ap (λ (o : Outcome). o.answer) (old_taken none)),
    )

-- ---- a refusal
-- It has the number of a named refusal, and leaves the schedule as it was.
pub load_in_table : (s : Schedule) (bytes : List ℕ) → Tabled (load s bytes).answer
unfolding load
load_in_table s bytes = tabled_outcome (load_checks bytes) s (load_done bytes) (λ n e. absurd (loaded_ok bytes n e))

pub load_keeps : (s : Schedule) (bytes : List ℕ) (n : ℕ) → (load s bytes).answer ≡ refused n → (load s bytes).schedule ≡ s
unfolding load
load_keeps s bytes = refusal_keeps (load_checks bytes) s (load_done bytes) (loaded_ok bytes)
