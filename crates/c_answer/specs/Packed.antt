-- An answer as one number, as the C interface gives it, and the parameters as it takes them.
-- Assumes nothing.
use Rattle.std.specs.Prelude.{ℕ, ◌+◌, ◌*◌}
use Rattle.rules.specs.declared.Params.{Params}
use Rattle.rules.specs.declared.Answer.{Answer}
use Rattle.rules.specs.Replies.{number_of}

-- reply + 65,536 × programs + 4,294,967,296 × erases
unfoldable pub packed : Answer → ℕ
packed a = number_of a.reply + 65536 * a.programs + 4294967296 * a.erases

-- the nine parameters, in the order in which they are passed
abbrev pub params_of : ℕ → ℕ → ℕ → ℕ → ℕ → ℕ → ℕ → ℕ → ℕ → Params
params_of s alpha beta d mu gamma c n e =
    record { s = s; alpha = alpha; beta = beta; d = d; mu = mu; gamma = gamma; C = c; N = n; E = e }
