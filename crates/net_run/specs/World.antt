-- The world of all hosts, and its result.
pub use Rattle.host_state.specs.World.{World, IsResult, opening_world}
