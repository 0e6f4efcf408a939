-- The state, put line by line.
use mathlib.Core.Path.{◌≡◌, refl, sym, ap, subst, ◌∙◌}
use mathlib.Core.Bool.{true, false}
use mathlib.Core.List.{List, [], ◌∷◌, ◌++◌, flatten, append-nil, append_assoc}
use Prim.Native.Nat.{ℕ, ◌+◌, ◌<◌}
use lib.ListN.{length, take}
use Rattle.rules.specs.declared.Connection.{Connection}
use Rattle.rules.specs.Ownership.{at}
use Rattle.rules.specs.Handles.{each_live}
use Rattle.rules.specs.Decimal.{decimal}
use Rattle.rules.specs.Words.{spaced}
use Rattle.calls.proofs.EachLaws.{each_live_lem, each_dead}
use Rattle.text.specs.Promises.{Puts}
use Rattle.text.proofs.Putting.{puts_after, spaced_append}
use Rattle.state.specs.State.{newline, connection_line, state_lines}

-- The line of a connection: its run, then its share.
pub connection_line_lem : {l b z : List ℕ} {start i n : ℕ} (h : ℕ) (c : Connection) → Puts l start (decimal h ++ spaced (c.k ∷ c.anchor ∷ c.length ∷ [])) b i
    → Puts b i (spaced (c.floor ∷ c.ceiling ∷ c.estimate ∷ []) ++ newline) z n → Puts l start (connection_line h c) z n
unfolding connection_line
connection_line_lem {l} {z = z} {start} {n = n} h c p q =
    let run = c.k ∷ c.anchor ∷ c.length ∷ [] in
    let share = c.floor ∷ c.ceiling ∷ c.estimate ∷ [] in
    subst (λ (x : List ℕ). Puts l start x z n)
    (sym (append_assoc (decimal h ++ spaced run) (spaced share) newline)
    ∙ ap (λ (x : List ℕ). x ++ newline) (append_assoc (decimal h) (spaced run) (spaced share) ∙ ap (λ (x : List ℕ). decimal h ++ x) (sym (spaced_append run share))))
    (puts_after p q)

-- ---- the state, handle by handle
flatten_append : (xs ys : List (List ℕ)) → flatten (xs ++ ys) ≡ flatten xs ++ flatten ys
unfolding flatten
flatten_append [] ys = refl
flatten_append (x ∷ xs) ys = ap (λ (l : List ℕ). x ++ l) (flatten_append xs ys) ∙ sym (append_assoc x (flatten xs) (flatten ys))

module _ (cs : List Connection) (h : ℕ) (here : h < length cs) where
  -- A live one has its line,
  pub state_live : (at cs h).live ≡ true → state_lines 0 (take h cs) ++ connection_line h (at cs h) ≡ state_lines 0 (take (h + 1) cs)
  unfolding state_lines flatten
  state_live e =
      sym (ap flatten (each_live_lem connection_line cs h here e)
      ∙ flatten_append (each_live connection_line 0 (take h cs)) (connection_line h (at cs h) ∷ [])
      ∙ ap (λ (l : List ℕ). flatten (each_live connection_line 0 (take h cs)) ++ l) (append-nil (connection_line h (at cs h))))

  -- another nothing.
  pub state_dead : (at cs h).live ≡ false → state_lines 0 (take h cs) ≡ state_lines 0 (take (h + 1) cs)
  unfolding state_lines
  state_dead e = sym (ap flatten (each_dead connection_line cs h here e))
