-- What reading and writing a message promises.
use Rattle.std.specs.Prelude.{ℕ, ◌+◌, ◌≡◌, List, [], ◌∷◌, Option, Some, None, Result}
use Rattle.std.proofs.Math.Option.{Option as Maybe, none, some}
use Rattle.rules.specs.declared.Subrates.{Subrates}
use Rattle.rules.specs.declared.SubrateChange.{SubrateChange}
use Rattle.rules.specs.declared.Message.{Message}
use Rattle.rules.specs.declared.Refusal.{Refusal}
use Rattle.rules.specs.Bytes.{number_at}
use Rattle.rules.specs.Answers.{Written, of_reading, of_writing}
use Rattle.rules.specs.Messages.{two_bytes_each, message_in}
use Rattle.rules.specs.ReadMessage.{read_message}
use Rattle.rules.specs.WriteMessage.{write_message}
use Rattle.hci.specs.declared.Five.{Five}

-- Reading: the answer is what the rule gives for the bytes.
abbrev pub Reads : List ℕ → Result Message Refusal → Type 0
Reads bytes r = of_reading r ≡ read_message bytes

-- Writing: the answer and every byte of the buffer are what the rule gives for the inputs.
abbrev pub Writes : Message → List ℕ → List ℕ → Result ℕ Refusal → Type 0
Writes m before after r =
    ◌≡◌ {A = Written} (record { answer = of_writing r; buffer = after }) (write_message m before)

-- ---- within
-- The message that bytes are, if any, whether its values are allowed or not.
abbrev pub of_found : Option Message → Maybe Message
of_found (Some m) = some m
of_found None = none

abbrev pub Finds : List ℕ → Option Message → Type 0
Finds bytes r = of_found r ≡ message_in bytes

-- Five numbers of two bytes from a place on, as a command has them, and written out.
abbrev pub five_at : List ℕ → ℕ → Five
five_at bytes at =
    let n : ℕ → ℕ = λ place. number_at bytes place 2 in
    record {
      first = n at;
      top = n (at + 2);
      latency = n (at + 4);
      continuation = n (at + 6);
      timeout = n (at + 8);
    }

abbrev pub subrates_of : Five → Subrates
subrates_of f = record {
  min = f.first;
  max = f.top;
  latency = f.latency;
  continuation = f.continuation;
  timeout = f.timeout;
}

-- The five numbers of a command, and of an event.
abbrev pub of_subrates : Subrates → Five
of_subrates v = record {
  first = v.min;
  top = v.max;
  latency = v.latency;
  continuation = v.continuation;
  timeout = v.timeout;
}

abbrev pub of_change : SubrateChange → Five
of_change e = record {
  first = e.handle;
  top = e.factor;
  latency = e.latency;
  continuation = e.continuation;
  timeout = e.timeout;
}

abbrev pub five_bytes : Five → List ℕ
five_bytes f = two_bytes_each (f.first ∷ f.top ∷ f.latency ∷ f.continuation ∷ f.timeout ∷ [])
