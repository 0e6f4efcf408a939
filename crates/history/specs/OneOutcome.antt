-- "Two outcomes that satisfy a call's statement are shown to be equal": of every public call, in one place. Those of the exports for C stand in door/proofs/NumberLaws.
use Rattle.std.specs.Prelude.{ℕ, ◌≡◌, List, Option, Result}
use Rattle.rules.specs.declared.Schedule.{Schedule}
use Rattle.rules.specs.declared.Command.{Command}
use Rattle.rules.specs.declared.Refusal.{Refusal}
use Rattle.rules.specs.declared.Placed.{Placed}
use Rattle.rules.specs.declared.Adjusted.{Adjusted}
use Rattle.rules.specs.declared.Reply.{Reply}
use Rattle.rules.specs.declared.Done.{Done}
use Rattle.rules.specs.declared.Report.{Report}
use Rattle.rules.specs.declared.Message.{Message}
use Rattle.run.specs.Promises.{Starts}
use Rattle.schedule.specs.Promises.{Admits, Drops, Reports}
use Rattle.reports.specs.Promises.{ReportsAll}
use Rattle.questions.specs.Promises.{OwnerSays, AnchorSays}
use Rattle.image.specs.Promises.{Saves, Loads}
use Rattle.tidy.specs.Promises.{Tidies}
use Rattle.hci.specs.Promises.{Reads, Writes}
use Rattle.command.specs.declared.Output.{Output}
use Rattle.command.specs.Promises.{Obeys, Runs}

pub record OneOutcome : Type 0 where
  pub fresh : (a b : Schedule) → Starts a → Starts b → a ≡ b
  pub admit : (s : Schedule) (handle smallest largest floor ceiling : ℕ) (a b : Done (Result Placed Refusal))
      → Admits s handle smallest largest floor ceiling a → Admits s handle smallest largest floor ceiling b → a ≡ b
  pub drop : (s : Schedule) (handle : ℕ) (a b : Done (Result Unit Refusal)) → Drops s handle a → Drops s handle b → a ≡ b
  pub report : (s : Schedule) (handle sample : ℕ) (a b : Done (Result Adjusted Refusal)) → Reports s handle sample a → Reports s handle sample b → a ≡ b
  pub report_all : (s : Schedule) (reports : List Report) (list x y : List ℕ) (a b : Done (Result ℕ Refusal))
      → ReportsAll s reports list x a → ReportsAll s reports list y b → (a ≡ b) × (x ≡ y)
  pub owner : (s : Schedule) (block : ℕ) (a b : Option ℕ) → OwnerSays s block a → OwnerSays s block b → a ≡ b
  pub anchor : (s : Schedule) (handle block : ℕ) (a b : Result ℕ Refusal)
      → AnchorSays s handle block a → AnchorSays s handle block b → a ≡ b
  pub save : (s : Schedule) (buffer x y : List ℕ) (a b : Result ℕ Refusal) → Saves s buffer x a → Saves s buffer y b → (a ≡ b) × (x ≡ y)
  pub load : (s : Schedule) (bytes : List ℕ) (a b : Done (Result ℕ Refusal)) → Loads s bytes a → Loads s bytes b → a ≡ b
  pub tidy : (s : Schedule) (list x y : List ℕ) (a b : Done (Result ℕ Refusal)) → Tidies s list x a → Tidies s list y b → (a ≡ b) × (x ≡ y)
  pub read_message : (bytes : List ℕ) (a b : Result Message Refusal) → Reads bytes a → Reads bytes b → a ≡ b
  pub write_message : (m : Message) (buffer x y : List ℕ) (a b : Result ℕ Refusal) → Writes m buffer x a → Writes m buffer y b → (a ≡ b) × (x ≡ y)
  pub run : (input : List ℕ) (a b : Output) → Runs input a → Runs input b → a ≡ b
  -- Within the command program: the call that a command makes.
  pub obey : (s : Schedule) (c : Command) (a b : Done Reply) → Obeys s c a → Obeys s c b → a ≡ b
