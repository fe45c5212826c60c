-- Session requests by their bytes.
use Rattle.view_coverage.specs.Rules.{SessionRequest}
use Rattle.view_coverage.specs.declared.deciding_rules.SessionRequest.{SessionRequest as Request}

abbrev pub request_view : Request → SessionRequest
request_view request = record { client = request.client; service = request.service.now; label = request.label.now }
