pub mod Software
pub mod Relation
pub mod PipeRelation
pub mod Port
pub mod Run
pub mod Laws
pub mod CallLaws
