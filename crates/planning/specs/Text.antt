-- How a line of a working is written.
use Rattle.std.specs.Prelude.{ℕ, cond, List, ◌++◌, codes, decimal}
use Rattle.std.specs.Fmt.{signed_decimal}
use Rattle.planning.specs.declared.working.Working.{Working}

abbrev pub working_text : Working → List ℕ
working_text w =
    decimal w.number ++ (codes ": planned " ++ (decimal w.claim ++ (codes ", rounded down " ++ (decimal w.floor
    ++ (codes ", left over " ++ (decimal (cond w.extra 1 0) ++ (codes ", corrected " ++ signed_decimal w.part)))))))
