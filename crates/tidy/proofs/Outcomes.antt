-- The call's three ways out, each the whole of what the rule gives.
use mathlib.Core.Path.{◌≡◌, refl, sym, ap, ◌∙◌, subst⁻¹}
use mathlib.Core.Bool.{false≢true}
use mathlib.Core.List.{List}
use mathlib.Core.Option.{Option, none, some}
use Prim.Native.Nat.{ℕ, ◌*◌, ◌/◌, ◌<◌, ◌≤◌}
use native.Mathlib.Omega.{arith}
use lib.ListN.{length, length-map}
use Rattle.rules.specs.declared.Connection.{Connection}
use Rattle.rules.specs.declared.Schedule.{Schedule}
use Rattle.std.specs.Prelude.{Result, Ok, Err, is_ok}
use Rattle.rules.specs.declared.Refusal.{Refusal}
use Rattle.rules.specs.declared.Done.{Done}
use Rattle.rules.specs.Refusals.{number}
use Rattle.rules.specs.declared.Refusal.TheVariants.{ListShort}
use Rattle.rules.specs.Good.{Good, fresh, with_connections}
use Rattle.rules.specs.Lent.{over}
use Rattle.rules.specs.Answers.{Listed, refusing_list, of_tidying, listed, tidied}
use Rattle.rules.specs.Tidy.{arranged, movers, move_of, moves, move_width, entries, tidy}
use Rattle.calls.proofs.TidyLaws.{tidy_19, tidy_14, tidy_ok, tidy_good}
use Rattle.tidy.specs.Promises.{Tidies, TidiesTo, Arranges, Counts}

-- What is the rule's is good.
settled : (s : Schedule) → Good s → (entry exit : List ℕ) (r : Done (Result ℕ Refusal)) → listed of_tidying r exit ≡ tidy s entry → Tidies s entry exit r
settled s good entry exit r e =
    record { is = e; good = subst⁻¹ Good (ap (λ (o : Listed). o.schedule) e) (tidy_good s good entry) }

moved_count : (old new : List Connection) → length (moves old new) ≡ length (movers old new)
unfolding moves
moved_count old new = length-map (movers old new) (move_of old new)

-- 19: one of them finds no anchor.
pub none_found : (s : Schedule) → Good s → (entry : List ℕ) (why : Refusal) → Arranges (arranged s.connections) (Err why) → TidiesTo s entry entry (Err why)
none_found s good entry why p = go (arranged s.connections) refl p
  where
    go : (o : Option (List Connection)) → arranged s.connections ≡ o → Arranges o (Err why) → TidiesTo s entry entry (Err why)
    go none q w = settled s good entry entry _ (ap (λ (r : Result Schedule Refusal). refused_in r) w ∙ sym (tidy_19 s entry q))
      where
        refused_in : Result Schedule Refusal → Listed
        refused_in (Ok t) = refusing_list s entry 0
        refused_in (Err r) = refusing_list s entry (number r)
    go (some new) q w = absurd (false≢true (ap is_ok w))

module _ (s : Schedule) (good : Good s) (entry : List ℕ) (t : Schedule) (p : Arranges (arranged s.connections) (Ok t)) where
  -- All find one: the schedule is that of the new connections.
  found : (new : List Connection) × (arranged s.connections ≡ some new) × (t ≡ with_connections fresh new)
  found = go (arranged s.connections) refl p
    where
      go : (o : Option (List Connection)) → arranged s.connections ≡ o → Arranges o (Ok t)
          → (new : List Connection) × (arranged s.connections ≡ some new) × (t ≡ with_connections fresh new)
      go none q w = absurd (false≢true (sym (ap is_ok w)))
      go (some new) q w = (new, q, inner w)
        where
          inner : {a b : Schedule} → ◌≡◌ {A = Result Schedule Refusal} (Ok a) (Ok b) → a ≡ b
          inner e = cc

  same : t.connections ≡ found.0
  unfolding with_connections
  same = ap (λ (t : Schedule). t.connections) found.2

  counted : (n : ℕ) → Counts s.connections t.connections n → n ≡ length (moves s.connections found.0)
  counted n c = c.is ∙ sym (moved_count s.connections t.connections) ∙ ap (λ (x : List Connection). length (moves s.connections x)) same

  module _ (n : ℕ) (c : Counts s.connections t.connections n) where
    -- 14: the list has fewer entries than there are moves.
    pub short : length entry / move_width < n → TidiesTo s entry entry (Err ListShort)
    short l = settled s good entry entry _ (sym (tidy_14 s entry found.0 found.1 (omega (arith, counted n c))))

    -- It has as many: so there is room for their numbers,
    pub room : n ≤ length entry / move_width → move_width * length (movers s.connections t.connections) ≤ length entry
    room l = omega (arith, c.is)

    -- and it is carried out.
    pub done : n ≤ length entry / move_width → (exit : List ℕ) → exit ≡ over (entries (moves s.connections t.connections)) entry
        → TidiesTo s entry exit (Ok (n, t))
    unfolding with_connections
    done l exit q =
        settled s good entry exit _
        (ap (λ (t : Schedule). record { answer = tidied n; schedule = t; list = exit }) found.2
        ∙ ap (λ (m : ℕ). record { answer = tidied m; schedule = with_connections s found.0; list = exit }) (counted n c)
        ∙ ap (λ (l : List ℕ). record { answer = tidied (length (moves s.connections found.0)); schedule = with_connections s found.0; list = l })
        (q ∙ ap (λ (x : List Connection). over (entries (moves s.connections x)) entry) same)
        ∙ sym (tidy_ok s entry found.0 found.1 (omega (arith, counted n c))))
