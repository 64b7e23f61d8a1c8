-- The values of the units that the code holds.
use Rattle.std.specs.Prelude.{option_map, option_copied}
use Rattle.osi_tpdu.specs.declared.connect.ConnectParameters.{ConnectParameters}
use Rattle.osi_tpdu.specs.declared.connect.ConnectFields.{ConnectFields}
use Rattle.osi_tpdu.specs.declared.connect_request.ConnectRequest.{ConnectRequest}
use Rattle.osi_tpdu.specs.declared.connect_confirm.ConnectConfirm.{ConnectConfirm}
use Rattle.osi_tpdu.specs.declared.unit.Tpdu.{Tpdu}
use Rattle.osi_tpdu.specs.declared.unit.Tpdu.TheVariants.{Cr, Cc, Dr, Dc, Dt0, Dt2, Ak, Er}
use Rattle.osi_tpdu.specs.Limits.{size_code, selector_octets}
use Rattle.osi_tpdu.specs.Value.{Parameters, Connect, Value, request, confirm, disconnect, disconnected, data0, data2, acknowledge, error}

abbrev pub parameter_values : ConnectParameters → Parameters
parameter_values p = record {
  size = option_map size_code p.size;
  calling = option_map selector_octets p.calling;
  called = option_map selector_octets p.called;
  additional = p.additional_options;
  alternative = option_copied p.alternative_classes;
}

abbrev pub connect_content : ConnectFields → Connect
connect_content f = record { credit = f.credit; source = f.source; class = f.class; options = f.options; parameters = parameter_values f.parameters; user = f.user.now }

abbrev pub request_content : ConnectRequest → Connect
request_content r = connect_content r.fields

abbrev pub confirm_content : ConnectConfirm → Connect
confirm_content c = connect_content c.fields

abbrev pub value : Tpdu → Value
value (Cr r) = request (request_content r)
value (Cc c) = confirm c.destination (confirm_content c)
value (Dr d) = disconnect d.destination d.source d.reason d.user.now
value (Dc d) = disconnected d.destination d.source
value (Dt0 d) = data0 d.end d.user.now
value (Dt2 d) = data2 d.destination d.number d.end d.user.now
value (Ak a) = acknowledge a.credit a.destination a.number
value (Er e) = error e.destination e.cause
