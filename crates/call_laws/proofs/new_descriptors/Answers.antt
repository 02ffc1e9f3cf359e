use Rattle.call_laws.proofs.NewDescriptors.{openat_least, timerfd_create_least, eventfd2_least, epoll_create1_least, socket_least, accept_least, pipe2_reading, pipe2_writing}
use Rattle.call_laws.proofs.new_descriptors.Goals as goal

pub returns : goal.returns
returns c = record { file = openat_least; timer = timerfd_create_least; eventfd = eventfd2_least; epoll = epoll_create1_least; socket = socket_least; connection = accept_least; reading_end = pipe2_reading; writing_end = pipe2_writing }
