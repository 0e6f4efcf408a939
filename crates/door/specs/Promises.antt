-- What the exports promise: each the whole of what the rule gives, with the answer in numbers.
use Rattle.std.specs.Prelude.{ℕ, ◌≡◌, List}
use Rattle.rules.specs.Good.{Good}
use Rattle.rules.specs.Answers.{Outcome, Listed, Written, without_list}
use Rattle.door.specs.declared.Said.{Said}
use Rattle.door.specs.declared.Called.{Called}
use Rattle.door.specs.Numbers.{in_numbers, InNumbers}

-- What a call leaves, with the answer in numbers.
abbrev pub called : Outcome → Called
called o = record { said = in_numbers o.answer; schedule = o.schedule }

-- A call on a schedule: the answer and the schedule are the rule's; and the schedule is good again.
pub record Leaves (o : Outcome) (r : Called) : Type 0 where
  pub is : r ≡ called o
  pub good : Good r.schedule

-- A call that fills a lent list: the same of these, and every entry of the list is the rule's.
pub record Lists (o : Listed) (after : List ℕ) (r : Called) : Type 0 where
  pub leaves : Leaves (without_list o) r
  pub list : after ≡ o.list

-- A call that writes into a buffer: the answer and every byte of the buffer are the rule's.
pub record Writes (w : Written) (after : List ℕ) (r : Said) : Type 0 where
  pub says : InNumbers w.answer r
  pub bytes : after ≡ w.buffer
