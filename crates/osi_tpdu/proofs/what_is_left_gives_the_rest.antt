-- The loops over parameters and units: what has been read and what is left give the result of reading the whole.
use Rattle.std.proofs.Common.{◌≡◌, ℕ, ◌+◌, ◌<◌, ◌≤◌, List, length, Result, Ok, Err, refl, arith}
use Rattle.osi_tpdu.proofs.Vocabulary.{IsOk, false≢true, TpduFault, Parameters, parameter_at, with_parameter, parameters_at, skipped_at}

-- the parameters from here on, beside those known, are those of the whole
pub record Reads (at : ℕ) (p : Parameters) (rest : List ℕ) (whole : Result Parameters TpduFault) : Type 0 where
  pub fuel : ℕ
  pub enough : length rest ≤ fuel
  pub same : parameters_at fuel at p rest ≡ whole

abbrev pub Item : Type 0
Item = ℕ × List ℕ × List ℕ

Reads-with : (n at : ℕ) (p : Parameters) (rest : List ℕ) (whole : Result Parameters TpduFault) (item : Item) (more : Parameters) →
    1 ≤ length rest → length rest ≤ n → parameters_at n at p rest ≡ whole
    → parameter_at at rest ≡ Ok item → with_parameter at item.0 item.1 p ≡ Ok more → length item.2 < length rest →
    Reads (at + (2 + length item.1)) more item.2 whole
unfolding parameters_at
Reads-with n at p rest whole item more some enough same took added shorter = grind arith

pub Reads-more : (at : ℕ) (p : Parameters) (rest : List ℕ) (whole : Result Parameters TpduFault) (item : Item) (more : Parameters) →
    Reads at p rest whole → 1 ≤ length rest
    → parameter_at at rest ≡ Ok item → with_parameter at item.0 item.1 p ≡ Ok more → length item.2 < length rest →
    Reads (at + (2 + length item.1)) more item.2 whole
Reads-more at p rest whole item more r some took added shorter =
    Reads-with r.fuel at p rest whole item more some r.enough r.same took added shorter

Reads-cut-with : (n at : ℕ) (p : Parameters) (rest : List ℕ) (whole : Result Parameters TpduFault) (f : TpduFault) → 1 ≤ length rest →
    length rest ≤ n → parameters_at n at p rest ≡ whole
    → parameter_at at rest ≡ Err f → whole ≡ Err f
unfolding parameters_at
Reads-cut-with n at p rest whole f some enough same cut = grind arith

pub Reads-cut : (at : ℕ) (p : Parameters) (rest : List ℕ) (whole : Result Parameters TpduFault) (f : TpduFault) → Reads at p rest whole →
    1 ≤ length rest → parameter_at at rest ≡ Err f → whole ≡ Err f
Reads-cut at p rest whole f r some cut = Reads-cut-with r.fuel at p rest whole f some r.enough r.same cut

Reads-refused-with : (n at : ℕ) (p : Parameters) (rest : List ℕ) (whole : Result Parameters TpduFault) (item : Item) (f : TpduFault) →
    1 ≤ length rest → length rest ≤ n → parameters_at n at p rest ≡ whole
    → parameter_at at rest ≡ Ok item → with_parameter at item.0 item.1 p ≡ Err f → whole ≡ Err f
unfolding parameters_at
Reads-refused-with n at p rest whole item f some enough same took refused = grind arith

pub Reads-refused : (at : ℕ) (p : Parameters) (rest : List ℕ) (whole : Result Parameters TpduFault) (item : Item) (f : TpduFault) →
    Reads at p rest whole → 1 ≤ length rest
    → parameter_at at rest ≡ Ok item → with_parameter at item.0 item.1 p ≡ Err f → whole ≡ Err f
Reads-refused at p rest whole item f r some took refused =
    Reads-refused-with r.fuel at p rest whole item f some r.enough r.same took refused

Reads-all-with : (n at : ℕ) (p : Parameters) (rest : List ℕ) (whole : Result Parameters TpduFault) → length rest ≡ 0 →
    parameters_at n at p rest ≡ whole → whole ≡ Ok p
unfolding parameters_at
Reads-all-with n at p rest whole none same = grind arith

pub Reads-all : (at : ℕ) (p : Parameters) (rest : List ℕ) (whole : Result Parameters TpduFault) → Reads at p rest whole → length rest ≡ 0 →
    whole ≡ Ok p
Reads-all at p rest whole r none = Reads-all-with r.fuel at p rest whole none r.same

bad_unknown : (whole : Result Parameters TpduFault) (f : TpduFault) → whole ≡ Err f → IsOk whole → ⊥
bad_unknown whole f bad known = false≢true (rw bad at known)

whole_by : (at : ℕ) (p : Parameters) (rest : List ℕ) (whole : Result Parameters TpduFault) (first : Result Item TpduFault) →
    Reads at p rest whole → 1 ≤ length rest → IsOk whole → parameter_at at rest ≡ first → IsOk (parameter_at at rest)
whole_by at p rest whole (Ok item) r some known took = rw took refl
whole_by at p rest whole (Err f) r some known cut = absurd (bad_unknown whole f (Reads-cut at p rest whole f r some cut) known)

-- parameters that are known to be good begin with one that is whole
pub Reads-whole : (at : ℕ) (p : Parameters) (rest : List ℕ) (whole : Result Parameters TpduFault) → Reads at p rest whole →
    1 ≤ length rest → IsOk whole → IsOk (parameter_at at rest)
Reads-whole at p rest whole r some known = whole_by at p rest whole (parameter_at at rest) r some known refl

good_by : (at : ℕ) (p : Parameters) (rest : List ℕ) (whole : Result Parameters TpduFault) (item : Item)
    (more : Result Parameters TpduFault) → Reads at p rest whole → 1 ≤ length rest → IsOk whole → parameter_at at rest ≡ Ok item →
    with_parameter at item.0 item.1 p ≡ more → IsOk (with_parameter at item.0 item.1 p)
good_by at p rest whole item (Ok more) r some known took added = rw added refl
good_by at p rest whole item (Err f) r some known took refused =
    absurd (bad_unknown whole f (Reads-refused at p rest whole item f r some took refused) known)

-- and with one that is good
pub Reads-good : (at : ℕ) (p : Parameters) (rest : List ℕ) (whole : Result Parameters TpduFault) (item : Item) → Reads at p rest whole →
    1 ≤ length rest → IsOk whole → parameter_at at rest ≡ Ok item → IsOk (with_parameter at item.0 item.1 p)
Reads-good at p rest whole item r some known took =
    good_by at p rest whole item (with_parameter at item.0 item.1 p) r some known took refl

-- the same if none is known
pub record Skips (at : ℕ) (rest : List ℕ) (whole : Result (Unit {0}) TpduFault) : Type 0 where
  pub fuel : ℕ
  pub enough : length rest ≤ fuel
  pub same : skipped_at fuel at rest ≡ whole

Skips-with : (n at : ℕ) (rest : List ℕ) (whole : Result (Unit {0}) TpduFault) (item : Item) → 1 ≤ length rest → length rest ≤ n →
    skipped_at n at rest ≡ whole
    → parameter_at at rest ≡ Ok item → length item.2 < length rest → Skips (at + (2 + length item.1)) item.2 whole
unfolding skipped_at
Skips-with n at rest whole item some enough same took shorter = grind arith

pub Skips-more : (at : ℕ) (rest : List ℕ) (whole : Result (Unit {0}) TpduFault) (item : Item) → Skips at rest whole → 1 ≤ length rest
    → parameter_at at rest ≡ Ok item → length item.2 < length rest → Skips (at + (2 + length item.1)) item.2 whole
Skips-more at rest whole item r some took shorter = Skips-with r.fuel at rest whole item some r.enough r.same took shorter

Skips-cut-with : (n at : ℕ) (rest : List ℕ) (whole : Result (Unit {0}) TpduFault) (f : TpduFault) → 1 ≤ length rest → length rest ≤ n →
    skipped_at n at rest ≡ whole
    → parameter_at at rest ≡ Err f → whole ≡ Err f
unfolding skipped_at
Skips-cut-with n at rest whole f some enough same cut = grind arith

pub Skips-cut : (at : ℕ) (rest : List ℕ) (whole : Result (Unit {0}) TpduFault) (f : TpduFault) → Skips at rest whole → 1 ≤ length rest →
    parameter_at at rest ≡ Err f → whole ≡ Err f
Skips-cut at rest whole f r some cut = Skips-cut-with r.fuel at rest whole f some r.enough r.same cut

Skips-all-with : (n at : ℕ) (rest : List ℕ) (whole : Result (Unit {0}) TpduFault) → length rest ≡ 0 → skipped_at n at rest ≡ whole →
    whole ≡ Ok tt
unfolding skipped_at
Skips-all-with n at rest whole none same = grind arith

pub Skips-all : (at : ℕ) (rest : List ℕ) (whole : Result (Unit {0}) TpduFault) → Skips at rest whole → length rest ≡ 0 → whole ≡ Ok tt
Skips-all at rest whole r none = Skips-all-with r.fuel at rest whole none r.same
