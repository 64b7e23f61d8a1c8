use Rattle.std.proofs.Common.{arith, ◌≡◌, ℕ, false, List, Option, Some, None, MatchOption, rules}
use Rattle.osi_spdu.proofs.Vocabulary.{is_same, Code, UserData, Kind, written_code}
use Rattle.osi_spdu.proofs.units.Spdu.written_code.Goals as goal

-- a value that is no user data has one code
kept : (kind : Kind) (code : Code) (o : Option (List ℕ)) → is_same code UserData ≡ false →
    MatchOption o (code ≡ code) (λ v. code ≡ written_code kind code v)
unfolding written_code
kept kind code h e = grind arith

pub returns-then-not-is_user_data : goal.returns-then-not-is_user_data
returns-then-not-is_user_data c =
    let one : is_same c.args.code UserData ≡ false = search rules in
    kept c.args.self.now.kind c.args.code _ one

pub returns-in-None : goal.returns-in-None
returns-in-None c = grind (arith, written_code)

pub returns-in-Some : goal.returns-in-Some
returns-in-Some c = grind (arith, written_code)
