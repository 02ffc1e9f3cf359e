use Rattle.call_laws.proofs.ReadyCalls.{answers_where, read_answers, recvfrom_answers, accept_answers, write_answers, sendto_answers, connect_answers, wait_answers}
use Rattle.call_laws.proofs.readiness_and_answers.Goals as goal

pub returns : goal.returns
returns c = record {
  read = answers_where _ _ read_answers;
  recvfrom = answers_where _ _ recvfrom_answers;
  accept = answers_where _ _ accept_answers;
  write = answers_where _ _ write_answers;
  sendto = answers_where _ _ sendto_answers;
  connect = answers_where _ _ connect_answers;
  epoll_wait = answers_where _ _ wait_answers;
}
