-- What the reading of an order promises.
use Rattle.std.specs.Prelude.{ℕ, ◌≤◌, ◌≡◌, List, length, take, Option, Some, None}
use Rattle.order.specs.declared.Order.{Order as Ordered}
use Rattle.order.specs.declared.Order.TheVariants.{Command, Fresh, Save, SaveInto, Load, State}
use Rattle.hexadecimal.specs.Lending.{most_buffer}
use Rattle.order.specs.Orders.{Order, command, fresh, save, state, bad, save_into, load, asks}

-- The order for every case; the bytes of a load are the first n of the buffer.
abbrev pub of_order : List ℕ → Option Ordered → Order
of_order buffer (Some (Command c)) = command c
of_order buffer (Some Fresh) = fresh
of_order buffer (Some Save) = save
of_order buffer (Some (SaveInto n)) = save_into n
of_order buffer (Some (Load n)) = load (take n buffer)
of_order buffer (Some State) = state
of_order buffer None = bad

-- They are within the buffer; and a save's buffer is not too large.
abbrev pub Within : List ℕ → Option Ordered → Type 0
Within buffer (Some (Command c)) = Unit {0}
Within buffer (Some Fresh) = Unit {0}
Within buffer (Some Save) = Unit {0}
Within buffer (Some (SaveInto n)) = n ≤ most_buffer
Within buffer (Some (Load n)) = n ≤ length buffer
Within buffer (Some State) = Unit {0}
Within buffer None = Unit {0}

-- What the line asks for.
pub record Asks (line buffer : List ℕ) (r : Option Ordered) : Type 0 where
  pub is : of_order buffer r ≡ asks line
  pub within : Within buffer r

-- The same with any buffer, as a save's line holds no bytes.
abbrev pub AsksSave : List ℕ → Option Ordered → Type 0
AsksSave line r = (buffer : List ℕ) → Asks line buffer r
