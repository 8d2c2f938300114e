use Rattle.device_arrivals.proofs.Few.{few_with_request, few_with_packet, few_behind}
use Rattle.device_arrivals.proofs.laws.arrivals_stay_few.Goals as goal

pub returns-clause-with_one : goal.returns-clause-with_one
returns-clause-with_one c = λ top arrivals few. record {
  request = λ bytes is two. few_with_request top arrivals bytes few is two;
  packet = λ number toggle bytes is none. few_with_packet top arrivals number toggle bytes few is none;
}

pub returns-clause-behind : goal.returns-clause-behind
returns-clause-behind c = few_behind
