pub mod KeyCode
pub mod KeyOrder
pub mod KeyReading
