-- How terms are written.
use Rattle.std.specs.Prelude.{ℕ, List, ◌++◌, pos, ◌-ℤ◌, codes, decimal}
use Rattle.std.specs.Fmt.{signed_decimal}
use Rattle.terms.specs.declared.balance.Balance.{Balance}
use Rattle.terms.specs.declared.codes.UnknownCode.{UnknownCode}

-- A balance, in a working.
abbrev pub balance_text : Balance → List ℕ
balance_text b = codes "sold " ++ (decimal b.sold ++ (codes ", bought " ++ (decimal b.bought ++ (codes ": deemed plan " ++ signed_decimal (pos b.sold -ℤ pos b.bought)))))

-- Which code no case has.
abbrev pub unknown_code_text : UnknownCode → List ℕ
unknown_code_text e = codes "no case has the code " ++ decimal e.code
