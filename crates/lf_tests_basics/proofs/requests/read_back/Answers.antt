use Rattle.std.proofs.Common.{◌∙◌, ap}
use Rattle.lf_proto.specs.Commands.{command_with_names}
use Rattle.lf_proto.specs.Requests.{command_on}
use Rattle.lf_tests_basics.proofs.Printed.{reads_printed}
use Rattle.lf_tests_basics.proofs.requests.read_back.Goals as goal

pub returns : goal.returns
returns c = λ command plain is.
    reads_printed command_with_names (command_on c.args.line.now) command c.parse_line.result (ap command_on is ∙ c.printed_reads_back.ensures command plain) c.parse_line.ensures
