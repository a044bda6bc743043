pub mod Rising
pub mod Parts
pub mod FieldLaws
pub mod KindLaws
pub mod TextLaws
pub mod KeyParts
pub mod BodyLengths
pub mod CheckpointLengths
