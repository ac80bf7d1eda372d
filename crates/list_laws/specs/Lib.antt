pub mod Line
pub mod Walk
pub mod Nodes
pub mod Landing
pub mod Short
-- Passed on to the layers above, so that they needn't name these libraries themselves.
pub use Rattle.bucket_laws
pub use Rattle.node_laws
pub use Rattle.shared_laws
pub use Rattle.bucket_laws.specs.bucket_bodies.specs.section_body
pub use Rattle.list_bodies
