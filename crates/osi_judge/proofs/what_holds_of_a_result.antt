-- What a call says of its result holds of what follows from it: for functions that return what they call.
use Rattle.std.proofs.Common.{arith, Result, IfOk, IsOk, OnOk, OnErr}

pub on_ok : {T E : Type 0} {P Q : Type 0} (r : Result T E) → OnOk r P → (P → Q) → OnOk r Q
on_ok h h2 f = grind arith

pub on_ok_both : {T E : Type 0} {P R Q : Type 0} (r : Result T E) → OnOk r P → OnOk r R → (P → R → Q) → OnOk r Q
on_ok_both h h2 k f = grind arith

pub on_err : {T E : Type 0} {P Q : Type 0} (r : Result T E) → OnErr r P → (P → Q) → OnErr r Q
on_err h h2 f = grind arith

pub if_ok : {T E : Type 0} {P Q : T → Type 0} (r : Result T E) → IfOk r P → ((x : T) → P x → Q x) → IfOk r Q
if_ok h h2 f = grind arith

pub any_err : {T E : Type 0} {P : Type 0} (r : Result T E) → P → OnErr r P
any_err h h2 = grind arith

pub any_ok : {T E : Type 0} {P : Type 0} (r : Result T E) → P → OnOk r P
any_ok h h2 = grind arith

pub now_so : {T E : Type 0} {P : Type 0} (r : Result T E) → IsOk r → OnOk r P → P
now_so h e h2 = grind arith
