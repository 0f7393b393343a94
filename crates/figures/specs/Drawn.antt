-- The generator: what is drawn from a state, and the state behind it.
use Rattle.std.specs.Prelude.{ℕ, ◌+◌, ◌*◌, ◌/◌, ◌%◌, ◌^◌, cond, ◌==◌}

-- The next state.
abbrev pub stepped : ℕ → ℕ
stepped state = (state * 6364136223846793005 % 2 ^ 64 + 1442695040888963407) % 2 ^ 64

-- What a state gives: the square of its upper half, without its lowest 16 bits.
abbrev pub mixed : ℕ → ℕ
mixed state = state / 4294967296 * (state / 4294967296) % 2 ^ 64 / 65536

-- A number below n: what the next state gives, modulo n.
abbrev pub drawn : ℕ → ℕ → ℕ
drawn state n = mixed (stepped state) % n

-- A figure from 0 to the most, by a number below 8 and a number inside: one figure in four is an edge.
abbrev pub edged : ℕ → ℕ → ℕ → ℕ
edged edge inside most = cond (edge == 0) 0 (cond (edge == 1) most inside)

-- It takes two draws.
abbrev pub figure : ℕ → ℕ → ℕ
figure state most = edged (drawn state 8) (drawn (stepped state) (most + 1)) most
