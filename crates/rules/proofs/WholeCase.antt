-- The command program's whole case, computed from the definitions.
use mathlib.Core.Path.{◌≡◌, refl}
use mathlib.Core.List.{◌++◌}
use Rattle.rules.specs.Text.{text}
use Rattle.rules.specs.Program.{program}

-- "Input left, output right, two separate texts with no header or padding."
pub whole_case : program
    (text "admit 0 48 1 4\n"
    ++ text "admit 1 48 1 1\n"
    ++ text "report 0 7500\n"
    ++ text "owner 9\n"
    ++ text "owner 7\n"
    ++ text "anchor 1 6\n"
    ++ text "admit 2 6 1 1\n"
    ++ text "drop 5\n")
    ≡ text "ok 8 0 1\n"
    ++ text "ok 8 4 1\n"
    ++ text "grown 2\n"
    ++ text "owner 0\n"
    ++ text "idle\n"
    ++ text "slots 36\n"
    ++ text "no 20\n"
    ++ text "no 3\n"
unfolding program
whole_case = refl
