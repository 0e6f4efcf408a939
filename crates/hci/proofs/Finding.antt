-- What the size and the head of bytes come to: the message that they are, or none.
use mathlib.Core.Path.{◌≡◌, sym}
use mathlib.Core.List.{List}
use mathlib.Core.Option.{none, some}
use Prim.Native.Nat.{ℕ, ◌+◌, ◌*◌, ◌<◌, ◌≤◌}
use native.Mathlib.Omega.{arith}
use mir.Syntax.{w8}
use mir.Val.{Fits}
use lib.ListN.{length, get_or}
use Rattle.rules.specs.declared.Message.TheVariants.{Default, Request, Change}
use Rattle.rules.specs.Bytes.{number_at}
use Rattle.rules.specs.Messages.{subrates_at, change_at, message_in}
use Rattle.basics.proofs.BytesLaws.{AllBytes, number_at_lt, number_split}
use Rattle.messages.proofs.MessageLaws.{Formed, default, request, change, message_in_lem, message_none, unformed}

-- A slice of bytes holds bytes.
pub small : (bytes : List ℕ) → ((i : ℕ) → Fits w8 (get_or bytes i 0)) → AllBytes bytes
small bytes fits i = omega (arith, fits i)

module _ (bytes : List ℕ) (fits : (i : ℕ) → Fits w8 (get_or bytes i 0)) where
  -- The three bytes of a head, as a command has them and as an event does.
  module _ (l : 3 ≤ length bytes) where
    command_head : number_at bytes 0 3 ≡ number_at bytes 0 2 + 65536 * number_at bytes 2 1
    command_head = number_split bytes 0 2 1 (omega arith)

    event_head : number_at bytes 0 3 ≡ number_at bytes 0 1 + 256 * (number_at bytes 1 1 + 256 * number_at bytes 2 1)
    event_head = omega (arith, number_split bytes 0 1 2 (omega arith), number_split bytes 1 1 1 (omega arith))

  first : number_at bytes 0 1 < 256
  first = number_at_lt bytes 0 1 (small bytes fits)

  second : number_at bytes 1 1 < 256
  second = number_at_lt bytes 1 1 (small bytes fits)

  code : number_at bytes 0 2 < 65536
  code = number_at_lt bytes 0 2 (small bytes fits)

  -- Bytes of none of the forms.
  nothing : (Formed bytes → ⊥) → none ≡ message_in bytes
  nothing f = sym (message_none bytes (unformed bytes f))

  -- ---- of each size
  module _ (sized : length bytes ≡ 13) where
    pub default_found : number_at bytes 0 3 ≡ 0x0a207d → some (Default (subrates_at bytes 3)) ≡ message_in bytes
    default_found e =
        let h = command_head (omega arith) in
        sym (message_in_lem bytes (small bytes fits) (default (record {
          code = omega (arith, code);
          counted = omega (arith, code);
          sized = sized;
        })))

    pub default_missing : (number_at bytes 0 3 ≡ 0x0a207d → ⊥) → none ≡ message_in bytes
    default_missing f = nothing wrong
      where
        wrong : Formed bytes → ⊥
        wrong (default d) = f (omega (arith, command_head (omega arith), d.code, d.counted))
        wrong (request d) = omega (arith, d.sized)
        wrong (change d) = omega (arith, d.sized)

  module _ (sized : length bytes ≡ 15) where
    pub request_found : number_at bytes 0 3 ≡ 0x0c207e → some (Request (number_at bytes 3 2) (subrates_at bytes 5)) ≡ message_in bytes
    request_found e =
        let h = command_head (omega arith) in
        sym (message_in_lem bytes (small bytes fits) (request (record {
          code = omega (arith, code);
          counted = omega (arith, code);
          sized = sized;
        })))

    pub request_missing : (number_at bytes 0 3 ≡ 0x0c207e → ⊥) → none ≡ message_in bytes
    request_missing f = nothing wrong
      where
        wrong : Formed bytes → ⊥
        wrong (default d) = omega (arith, d.sized)
        wrong (request d) = f (omega (arith, command_head (omega arith), d.code, d.counted))
        wrong (change d) = omega (arith, d.sized)

  module _ (sized : length bytes ≡ 14) where
    pub change_found : number_at bytes 0 3 ≡ 0x230c3e → some (Change (change_at bytes 3)) ≡ message_in bytes
    change_found e =
        let h = event_head (omega arith) in
        sym (message_in_lem bytes (small bytes fits) (change (record {
          code_is = omega (arith, first, second);
          counted = omega (arith, first, second);
          sub = omega (arith, first, second);
          sized = sized;
        })))

    pub change_missing : (number_at bytes 0 3 ≡ 0x230c3e → ⊥) → none ≡ message_in bytes
    change_missing f = nothing wrong
      where
        wrong : Formed bytes → ⊥
        wrong (default d) = omega (arith, d.sized)
        wrong (request d) = omega (arith, d.sized)
        wrong (change d) = f (omega (arith, event_head (omega arith), d.code_is, d.counted, d.sub))

  pub size_missing : (length bytes ≡ 13 → ⊥) → (length bytes ≡ 15 → ⊥) → (length bytes ≡ 14 → ⊥) → none ≡ message_in bytes
  size_missing f g h = nothing wrong
    where
      wrong : Formed bytes → ⊥
      wrong (default d) = f d.sized
      wrong (request d) = g d.sized
      wrong (change d) = h d.sized
