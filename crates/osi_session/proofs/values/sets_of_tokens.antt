-- Sets of tokens, and their octets.
use Rattle.osi_session.proofs.Vocabulary.{bit_and, and_parts, eqb-true, Tokens, is_disjoint, token_octet, arith, ◌≡◌, refl, ◌==◌, Bool}
use Rattle.osi_session.proofs.Vocabulary.{true, false, not, ◌&&◌, ◌||◌}

every_bool : (Bool → Bool) → Bool
every_bool f = f true && f false

bool_is : (f : Bool → Bool) → every_bool f ≡ true → (b : Bool) → f b ≡ true
unfolding every_bool
bool_is f h b = grind (arith, and_parts)

tokens_with : Bool → Bool → Bool → Bool → Tokens
tokens_with a b c d = record { data_token = a; minor = b; major = c; release = d }

every_set : (Tokens → Bool) → Bool
every_set f = every_bool (λ a. every_bool (λ b. every_bool (λ c. every_bool (λ d. f (tokens_with a b c d)))))

set_is : (f : Tokens → Bool) → every_set f ≡ true → (t : Tokens) → f t ≡ true
unfolding every_set tokens_with
set_is f h t =
    bool_is (λ d. f (tokens_with t.data_token t.minor t.major d)) (bool_is (λ c. every_bool (λ d. f (tokens_with t.data_token t.minor c d)))
    (bool_is (λ b. every_bool (λ c. every_bool (λ d. f (tokens_with t.data_token b c d))))
    (bool_is (λ a. every_bool (λ b. every_bool (λ c. every_bool (λ d. f (tokens_with a b c d))))) h t.data_token) t.minor) t.major)
    t.release

apart : Tokens → Tokens → Bool
apart a b = not (is_disjoint a b) || (bit_and (token_octet a) (token_octet b) == 0)

all_apart : every_set (λ a. every_set (apart a)) ≡ true
unfolding every_set every_bool tokens_with apart is_disjoint token_octet
all_apart = refl

-- sets without a common token have no common bit
pub disjoint_octets : (a b : Tokens) → is_disjoint a b ≡ true → bit_and (token_octet a) (token_octet b) ≡ 0
unfolding apart
disjoint_octets a b h =
    let all = set_is (apart a) (set_is (λ x. every_set (apart x)) all_apart a) b in
    eqb-true _ 0 (grind arith)
