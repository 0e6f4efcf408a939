-- What a line of a script prints, and the schedule after it.
use Rattle.std.specs.Prelude.{ℕ, List, ◌++◌, Some}
use Rattle.rules.specs.declared.Schedule.{Schedule}
use Rattle.rules.specs.Text.{text}
use Rattle.rules.specs.Words.{words_of}
use Rattle.rules.specs.Good.{fresh}
use Rattle.rules.specs.Image.{image}
use Rattle.rules.specs.Save.{save}
use Rattle.rules.specs.Load.{load}
use Rattle.rules.specs.Program.{Printed, carried_out}
use Rattle.hexadecimal.specs.Hex.{hex}
use Rattle.hexadecimal.specs.Lending.{blank, lent_line}
use Rattle.state.specs.State.{newline, state_lines}
use Rattle.order.specs.Orders.{Order, command, fresh as fresh_order, save as save_order, state, bad, save_into, load as load_order}

-- "`image`, one space and the image in lower-case hexadecimal"
unfoldable pub image_line : Schedule → List ℕ
unfolding image hex
image_line s = text "image " ++ hex (image s) ++ newline

-- "`saved` and the size, or `no 8`; then, if N is not 0, one space and the whole buffer afterwards in hexadecimal"
unfoldable pub saved_line : Schedule → ℕ → List ℕ
unfolding save lent_line
saved_line s n = lent_line (save s (blank n))

-- No line prints more.
abbrev pub most_printed : ℕ
most_printed = 8192

-- All that is printed, with the end of each line; and the schedule.
unfoldable pub performed : Schedule → Order → Printed
unfolding carried_out fresh load image_line saved_line state_lines words_of
performed s (command c) =
    let p = carried_out s (Some c) in
    record { words = p.words ++ newline; schedule = p.schedule }
performed s fresh_order = record { words = text "ok\n"; schedule = fresh }
performed s save_order = record { words = image_line s; schedule = s }
performed s state = record { words = state_lines 0 s.connections ++ text "end\n"; schedule = s }
performed s bad = record { words = text "bad\n"; schedule = s }
performed s (save_into n) = record { words = saved_line s n; schedule = s }
performed s (load_order bytes) =
    let o = load s bytes in
    record { words = words_of o.answer ++ newline; schedule = o.schedule }
