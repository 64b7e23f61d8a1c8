-- Units as an end writes them: each number has room in its field, so that what is written is read again as the same unit.
use Rattle.std.specs.Prelude.{◌≡◌, ◌<◌, ◌≤◌, [], length, IfSome}
use Rattle.osi_tpdu.specs.Value.{Connect, Value, acknowledge, confirm, data0, data2, disconnect, disconnected, error, request}

-- a CR or CC as an end writes it, apart from its reference and the octets of its selectors
pub record IsPlain (c : Connect) : Type 0 where
  pub credit : c.credit < 16
  pub class : c.class < 16
  pub options : c.options < 16
  pub size : IfSome c.parameters.size (λ code. (7 ≤ code) × (code ≤ 13))
  pub calling : IfSome c.parameters.calling (λ s. length s ≤ 32)
  pub called : IfSome c.parameters.called (λ s. length s ≤ 32)
  pub additional : IfSome c.parameters.additional (λ n. n < 256)
  pub alternative : IfSome c.parameters.alternative (λ s. length s ≤ 1)
  pub user : c.user ≡ []

-- no ER is written
abbrev pub CanBeWritten : Value → Type 0
CanBeWritten (request c) = IsPlain c
CanBeWritten (confirm destination c) = IsPlain c
CanBeWritten (disconnect destination source reason user) = Unit {0}
CanBeWritten (disconnected destination source) = Unit {0}
CanBeWritten (data0 end user) = Unit {0}
CanBeWritten (data2 destination number end user) = number < 128
CanBeWritten (acknowledge credit destination number) = (credit < 16) × (number < 128)
CanBeWritten (error destination cause) = ⊥
