-- The subcommand that a parse met, by its rows.
use Rattle.std.proofs.Common.{◌≡◌, ℕ, List, codes, true, false, refl, sym, ap}
use Rattle.clap.specs.Words.{first_value, rows_of, is_simple}
use Rattle.std.specs.Option.{option_map_or}
use Rattle.std.specs.Str.{bytes_eq}
use Rattle.clap.specs.declared.parser.matches.Found.{Found}
use Rattle.clap.proofs.OnLiterals.{clap_on_literals}
use Rattle.clap.proofs.WalkLemmas.{first_value-rows}
use Rattle.osi_tool.specs.Words.{osi, is_set}

-- whether an option is there, by its value
pub set_by_value : (f : Found) (name : List ℕ)
    → is_set name (rows_of f) ≡ option_map_or (λ text. bytes_eq text (codes "true")) (first_value f name) false
set_by_value f name = ap (λ o. option_map_or (λ text. bytes_eq text (codes "true")) o false) (sym (first_value-rows f name))

pub osi_is_simple : is_simple osi ≡ true
unfolding osi clap_on_literals
osi_is_simple = refl
